-- What a verb comes to.
use Rattle.std.specs.Prelude.{List, [], ◌∷◌, Result, Ok}
use Rattle.object_state.specs.declared.verbs.Step.{Step}
use Rattle.container_model.specs.declared.fault.ContainerFault.{ContainerFault}
use Rattle.container_model.specs.declared.record.Frame.{Frame}
use Rattle.container_model.specs.declared.record.Link.{Link}
use Rattle.container_model.specs.declared.record.Object.{Object}
use Rattle.container_model.specs.Record.{Record, Took, counts_none, quiet_answer}
use Rattle.container_model.specs.Verbs.{stepping}

-- what a verb comes to that has these steps
abbrev pub verb_went : Record → Frame → Object → Link → List Step → Result Took ContainerFault
verb_went r frame o l [] = Ok (counts_none r quiet_answer)
verb_went r frame o l (s ∷ ss) = stepping r frame o l (s ∷ ss)
