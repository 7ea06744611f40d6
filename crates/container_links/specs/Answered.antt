-- What an answer makes of a link whose pending operation it answers: first whether it answers one, then, for each kind
-- of answer, what the operation makes of it.
use Rattle.std.specs.Prelude.{◌+◌, ◌==◌, ◌&&◌, ℕ, Bool, false, Option, Some, None, is_some, Result, Err}
use Rattle.message_values.specs.declared.answer.Answer.{Answer}
use Rattle.message_values.specs.declared.operation.Operation.{Operation}
use Rattle.message_values.specs.declared.operation.Operation.TheVariants.{InitNew, Load, InPlace, UiActivate}
use Rattle.message_values.specs.declared.operation.Operation.TheVariants.{UiDeactivate, InPlaceDeactivate, OpenWindow}
use Rattle.message_values.specs.declared.operation.Operation.TheVariants.{Edit, Save, HandsOff, SaveCompleted}
use Rattle.message_values.specs.declared.operation.Operation.TheVariants.{SaveDropped, Close}
use Rattle.object_state.specs.declared.operations.CloseOption.TheVariants.{SaveIfDirty, NoSave}
use Rattle.container_model.specs.declared.record.Link.{Link}
use Rattle.container_model.specs.declared.fault.ContainerFault.{ContainerFault}
use Rattle.container_model.specs.declared.fault.ContainerFault.TheVariants.{Stale}
use Rattle.container_model.specs.Messages.{Replied, replied}
use Rattle.container_links.specs.declared.turns.WhenDone.{WhenDone}
use Rattle.container_links.specs.declared.turns.WhenDone.TheVariants.{Continues, GivesUp, Ends, Undone}
use Rattle.container_links.specs.declared.turns.WhenRefused.{WhenRefused}
use Rattle.container_links.specs.declared.turns.WhenRefused.TheVariants.{Lost, Noted, Unrefused}
use Rattle.container_links.specs.declared.turns.WhenContent.{WhenContent}
use Rattle.container_links.specs.declared.turns.WhenContent.TheVariants.{Saved, Closed, Unasked}

-- the call of this number is pending
abbrev pub is_pending : ℕ → Option Link → Bool
is_pending n None = false
is_pending n (Some l) = is_some l.pending && (n == l.last)

-- whichever number the pending call has
abbrev pub answered_at : Link → Answer → Option Operation → Result Replied ContainerFault
answered_at l answer None = Err Stale
answered_at l answer (Some op) = replied l op answer

abbrev pub answered : Option Link → Answer → Result Replied ContainerFault
answered None answer = Err Stale
answered (Some l) answer = answered_at l answer l.pending

-- what an operation that was done makes of an activation with this storage grant
abbrev pub when_done : Operation → ℕ → WhenDone
when_done (InitNew class) s = Continues 1
when_done (Load class content) s = Continues 1
when_done InPlace s = Continues s
when_done InPlaceDeactivate s = Continues s
when_done OpenWindow s = Continues s
when_done (Edit bytes) s = Continues s
when_done HandsOff s = Continues s
when_done (SaveCompleted k storage) s = Continues (s + 1)
when_done (SaveDropped k) s = Continues (s + 1)
when_done UiDeactivate s = GivesUp
when_done (Close NoSave) s = Ends
when_done op s = Undone

-- what one that was refused makes of it
abbrev pub when_refused : Operation → WhenRefused
when_refused (InitNew class) = Lost
when_refused (Load class content) = Lost
when_refused (Edit bytes) = Noted
when_refused op = Unrefused

-- what one that was answered by a content makes of it
abbrev pub when_content : Operation → WhenContent
when_content (Save k) = Saved
when_content (Close SaveIfDirty) = Closed
when_content op = Unasked

-- the grant under which an object asks for menus and border space
abbrev pub grant_of : Operation → Option ℕ
grant_of (UiActivate g) = Some g
grant_of op = None
