-- The numbers of a world: those of its record, of its messages and of its servers. No reader has to believe them; what
-- they are for stands in Safe.
use Rattle.std.specs.Prelude.{◌≡◌, ◌≤◌, ℕ, List, Some}
use Rattle.std.specs.List.{AllByRecursion}
use Rattle.message_values.specs.declared.message.Message.{Message}
use Rattle.message_values.specs.declared.message.Said.{Said}
use Rattle.message_values.specs.declared.message.Said.TheVariants.{Call}
use Rattle.message_values.specs.declared.operation.Operation.{Operation}
use Rattle.server_model.specs.Server.{Activation, Server}
use Rattle.container_model.specs.declared.record.Link.{Link}
use Rattle.container_numbers.specs.Sound.{IsNumbered}
use Rattle.world_model.specs.World.{World, Instance}
use Rattle.world_model.specs.Safe.{Among, IsWithin, WasSent, links_of}
use Rattle.world_facts.specs.Words.{Links}

-- An activation's number, that of its last call, and that of its grant. Its storage grant is numbered by at most one
-- for each call.
pub record IsActivationWithin (limit : ℕ) (a : Activation) : Type 0 where
  pub act : a.act ≤ limit
  pub last : a.last ≤ limit
  pub s : a.s ≤ a.last
  pub granted : (g : ℕ) → a.g ≡ Some g → g ≤ limit

pub record IsServerWithin (limit : ℕ) (v : Server) : Type 0 where
  pub inc : v.inc ≤ limit
  pub numbers : v.numbers ≤ limit
  pub acts : AllByRecursion (IsActivationWithin limit) v.acts

abbrev pub RunsWithin : ℕ → Instance → Type 0
RunsWithin limit i = IsServerWithin limit i.core

-- all of them; the limit is that of the record
pub record Numbers (limit : ℕ) (w : World) : Type 0 where
  pub recorded : IsNumbered limit w.rec
  pub sent : (m : Message) → WasSent w m → IsWithin limit m
  pub servers : AllByRecursion (RunsWithin limit) w.instances

-- what is said is the pending call of a link, as it was sent
pub record IsPending (links : Links) (m : Said) : Type 0 where
  pub object : ℕ
  pub link : Link
  pub operation : Operation
  pub linked : links object ≡ Some link
  pub pending : link.pending ≡ Some operation
  pub call : m ≡ Call link.inc link.act link.last operation

abbrev pub ArePending : Links → List Said → Type 0
ArePending links ms = (m : Said) → Among ms m → IsPending links m

-- What is sent of pending calls is within the limit, once the record is: so are the numbers of the world.
abbrev pub PendingWithin : ℕ → World → Type 0
PendingWithin limit w = (m : Message) → IsNumbered limit w.rec → IsPending (links_of w.rec.objects) m.said
    → WasSent w m → IsWithin limit m

abbrev pub Follow : ℕ → World → Type 0
Follow limit w = PendingWithin limit w → Numbers limit w
