-- The activation that gives its frame up by a reply.
use Rattle.std.specs.Prelude.{ℕ, Option, Some, None, Result, Ok, Err}
use Rattle.container_model.specs.declared.fault.ContainerFault.{ContainerFault}
use Rattle.container_model.specs.declared.grants.Tells.{Tells}
use Rattle.container_model.specs.declared.grants.Tells.TheVariants.{Gets, GivesUp}
use Rattle.container_model.specs.Messages.{Replied}

abbrev pub given_by : Option Tells → Option ℕ
given_by None = None
given_by (Some (Gets g tools)) = None
given_by (Some (GivesUp act)) = Some act

abbrev pub gives_up : Result Replied ContainerFault → Option ℕ
gives_up (Err fault) = None
gives_up (Ok replied) = given_by replied.grant
