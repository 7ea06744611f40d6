-- Each step of a container keeps what holds of its record.
use Rattle.std.specs.Prelude.{◌≡◌, ℕ, true, List, Some, Ok, IsOk}
use Rattle.message_values.specs.Found.{find}
use Rattle.message_values.specs.declared.message.Said.TheVariants.{Reply}
use Rattle.message_values.specs.declared.operation.Operation.{Operation}
use Rattle.message_values.specs.declared.operation.Operation.TheVariants.{InitNew, Load, InPlace, UiActivate}
use Rattle.message_values.specs.declared.operation.Operation.TheVariants.{UiDeactivate, InPlaceDeactivate, OpenWindow}
use Rattle.message_values.specs.declared.operation.Operation.TheVariants.{Edit, Save, HandsOff, SaveCompleted}
use Rattle.message_values.specs.declared.operation.Operation.TheVariants.{SaveDropped, Close}
use Rattle.message_values.specs.declared.answer.Answer.{Answer}
use Rattle.message_values.specs.declared.answer.Answer.TheVariants.{Done, Refused, Content, Tools}
use Rattle.tree_streams.specs.Limits.{is_within}
use Rattle.object_state.specs.declared.operations.CloseOption.TheVariants.{SaveIfDirty, NoSave}
use Rattle.container_model.specs.declared.record.Link.{Link}
use Rattle.container_model.specs.declared.record.Object.{Object}
use Rattle.container_model.specs.Record.{Record, Took, empty, is_linked}
use Rattle.container_model.specs.Inputs.{Input, Leads, on_input}
use Rattle.container_model.specs.Messages.{on_message}
use Rattle.container_queues.specs.Steady.{Steady}

-- Laws: each step that is taken keeps it.
abbrev pub SteadyAfter : Type 0
SteadyAfter = (r : Record) (x : Input) (t : Took) → Steady r → on_input r x ≡ Ok t → Steady t.rec

-- an answer that fits an operation, with a content that may be stored where it has one
abbrev pub Fits : Operation → Answer → Type 0
Fits (InitNew class) Done = Unit {0}
Fits (InitNew class) (Refused why) = Unit {0}
Fits (Load class content) Done = Unit {0}
Fits (Load class content) (Refused why) = Unit {0}
Fits InPlace Done = Unit {0}
Fits (UiActivate g) (Tools menus border) = Unit {0}
Fits UiDeactivate Done = Unit {0}
Fits InPlaceDeactivate Done = Unit {0}
Fits OpenWindow Done = Unit {0}
Fits (Edit bytes) Done = Unit {0}
Fits (Edit bytes) (Refused why) = Unit {0}
Fits (Save k) (Content content) = is_within content ≡ true
Fits HandsOff Done = Unit {0}
Fits (SaveCompleted k storage) Done = Unit {0}
Fits (SaveDropped k) Done = Unit {0}
Fits (Close SaveIfDirty) (Content content) = is_within content ≡ true
Fits (Close NoSave) Done = Unit {0}
Fits op answer = ⊥

-- an answer to the pending call that fits it is taken: the tables refuse none
abbrev pub FittingAnswersTaken : Type 0
FittingAnswersTaken = (r : Record) (inc act : ℕ) (answer : Answer) (o : Object) (l : Link) (op : Operation)
    → Steady r → find (is_linked inc act) r.objects ≡ Some o → o.link ≡ Some l → l.pending ≡ Some op
    → Fits op answer
    → IsOk (on_message r (record { session = r.session; inc = inc })
    (record { session = r.session; said = Reply inc act l.last answer }))

-- so it holds whatever was done from the start on
abbrev pub SteadyAlways : Type 0
SteadyAlways = (numbers : ℕ) (xs : List Input) (u : Record) → Leads (empty numbers) xs u → Steady u
