-- What an activation takes up that is asked for its storage as its content is answered.
use Rattle.std.specs.Prelude.{◌+◌, ◌++◌, ◌||◌, ℕ, Bool, false, List, [], ◌∷◌, Option, Some, Result, Ok, Err, drop, take}
use Rattle.message_values.specs.declared.operation.Operation.{Operation}
use Rattle.message_values.specs.declared.operation.Operation.TheVariants.{HandsOff}
use Rattle.container_model.specs.declared.answer.Action.{Action}
use Rattle.container_model.specs.declared.answer.Action.TheVariants.{Send}
use Rattle.container_model.specs.declared.record.Link.{Link}
use Rattle.container_model.specs.declared.record.Object.{Object}
use Rattle.container_model.specs.declared.fault.ContainerFault.{ContainerFault}
use Rattle.container_model.specs.HandOffs.{is_answered}
use Rattle.container_model.specs.Messages.{Replied}
use Rattle.container_model.specs.Record.{call}
use Rattle.container_model.specs.Saves.{awaits}
use Rattle.container_links.specs.declared.asking.Prepared.{Prepared}
use Rattle.container_links.specs.declared.asking.Prepared.TheVariants.{Now, Behind}

-- once its pending call is answered, the first operation that waits is called, if one does; the storage is asked for
-- behind it
abbrev pub next_prepared_at : Link → List Operation → Prepared
next_prepared_at l [] = Now (l.last + 1) HandsOff
next_prepared_at l (op ∷ ops) = Behind (ops ++ HandsOff ∷ [])

abbrev pub next_prepared : Link → Prepared
next_prepared l = next_prepared_at l l.waiting

-- whether an answer that is taken is the content that was awaited
abbrev pub answers : Option Link → Result Replied ContainerFault → Bool
answers before (Err fault) = false
answers before (Ok replied) = is_answered before replied.link

-- what is sent to an object by what was prepared for it, and to all
abbrev pub call_by : Prepared → Option Link → List Action
call_by (Now n op) (Some l) = Send (call l n HandsOff) ∷ []
call_by p link = []

abbrev pub calls_by : List Prepared → List Object → List Action
calls_by [] os = []
calls_by (p ∷ ps) [] = []
calls_by (p ∷ ps) (o ∷ os) = call_by p o.link ++ calls_by ps os

-- a save of the frame waits for another object than the one that stands at i
abbrev pub awaits_but : ℕ → ℕ → List Object → Bool
awaits_but f i os = awaits f (take i os) || awaits f (drop (i + 1) os)
