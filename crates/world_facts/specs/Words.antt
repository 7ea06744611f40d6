-- The words of the invariant: a world by lookups, and the operations that were issued. No reader has to believe them;
-- what they are for stands in Safe.
use Rattle.std.specs.Prelude.{◌≡◌, ◌+◌, ℕ, List, map, Option, Some, None, slice_get}
use Rattle.message_values.specs.Found.{nth}
use Rattle.message_values.specs.declared.message.Message.{Message}
use Rattle.message_values.specs.declared.message.Said.{Said}
use Rattle.message_values.specs.declared.message.Said.TheVariants.{Call}
use Rattle.message_values.specs.declared.operation.Operation.{Operation}
use Rattle.server_model.specs.Server.{Activation}
use Rattle.container_model.specs.declared.record.Link.{Link}
use Rattle.world_model.specs.declared.life.Life.{Life}
use Rattle.container_model.specs.declared.answer.Action.{Action}
use Rattle.world_model.specs.World.{Instance, messages_of}
use Rattle.world_model.specs.Safe.{Among}
pub use Rattle.world_model.specs.Safe.{IsHonest}

-- what messages say, and what an answer's actions say
abbrev pub all_said : List Message → List Said
all_said ms = map (λ (m : Message). m.said) ms

abbrev pub sayings_of : List Action → List Said
sayings_of actions = all_said (messages_of actions)

-- links by the numbers of their objects, activations by incarnation and number, lives by incarnation
abbrev pub Links : Type 0
Links = ℕ → Option Link

abbrev pub Acts : Type 0
Acts = ℕ → ℕ → Option Activation

abbrev pub Lives : Type 0
Lives = ℕ → Option Life

abbrev pub life_at : Option Instance → Option Life
life_at None = None
life_at (Some i) = Some i.life

abbrev pub lives_of : List Instance → Lives
lives_of is inc = life_at (nth is inc)

-- An operation that an activation was called with, or that waits for it, by the number that its call has or will have.
-- Sending what waits leaves it as it is.
pub data Issued (links : Links) (sent : List Said) (inc act n : ℕ) (op : Operation) : Type 0 where
  called : Among sent (Call inc act n op) → Issued links sent inc act n op
  waits : (o : ℕ) (l : Link) (i : ℕ) → links o ≡ Some l → l.inc ≡ inc → l.act ≡ act
      → slice_get l.waiting i ≡ Some op → n ≡ l.last + 1 + i → Issued links sent inc act n op

-- an activation of this number that a link has in this incarnation
abbrev pub IsLinked : Links → ℕ → ℕ → Type 0
IsLinked links inc act = (o : ℕ) × (l : Link) × (links o ≡ Some l) × (l.inc ≡ inc) × (l.act ≡ act)

abbrev pub IsOpen : Activation → Type 0
IsOpen a = (c : _) × (a.content ≡ Some c)

abbrev pub IsClosed : Option Activation → Type 0
IsClosed None = ⊥
IsClosed (Some a) = a.content ≡ None
