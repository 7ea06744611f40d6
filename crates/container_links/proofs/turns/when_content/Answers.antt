use Rattle.std.proofs.Common.{◌≡◌, ℕ, refl}
use Rattle.object_state.specs.declared.operations.CloseOption.{CloseOption}
use Rattle.message_values.specs.declared.operation.Operation.{Operation}
use Rattle.message_values.specs.declared.operation.Operation.TheVariants.{InitNew, Load, InPlace, UiActivate}
use Rattle.message_values.specs.declared.operation.Operation.TheVariants.{UiDeactivate, InPlaceDeactivate, OpenWindow}
use Rattle.message_values.specs.declared.operation.Operation.TheVariants.{Edit, Save, HandsOff, SaveCompleted}
use Rattle.message_values.specs.declared.operation.Operation.TheVariants.{SaveDropped, Close}
use Rattle.container_links.specs.Answered.{when_content}
use Rattle.container_links.specs.declared.turns.WhenContent.TheVariants.{Unasked}
use Rattle.container_links.proofs.turns.when_content.Goals as goal

-- the operations that are not answered by a content
unasked : (op : Operation) → ((k : ℕ) → op ≡ Save k → ⊥) → ((option : CloseOption) → op ≡ Close option → ⊥)
    → Unasked ≡ when_content op
unasked (InitNew class) f0 f1 = refl
unasked (Load class content) f0 f1 = refl
unasked InPlace f0 f1 = refl
unasked (UiActivate g) f0 f1 = refl
unasked UiDeactivate f0 f1 = refl
unasked InPlaceDeactivate f0 f1 = refl
unasked OpenWindow f0 f1 = refl
unasked (Edit bytes) f0 f1 = refl
unasked (Save k) f0 f1 = absurd (f0 k refl)
unasked HandsOff f0 f1 = refl
unasked (SaveCompleted k storage) f0 f1 = refl
unasked (SaveDropped k) f0 f1 = refl
unasked (Close option) f0 f1 = absurd (f1 option refl)

pub returns-in-Save : goal.returns-in-Save
returns-in-Save c = rw c.in-Save.is

pub returns-in-SaveIfDirty : goal.returns-in-SaveIfDirty
returns-in-SaveIfDirty c = rw (c.in-Close.is, c.in-SaveIfDirty.is)

pub returns-in-NoSave : goal.returns-in-NoSave
returns-in-NoSave c = rw (c.in-Close.is, c.in-NoSave.is)

pub returns-in_default : goal.returns-in_default
returns-in_default c = unasked _ c.in_default.not-Save c.in_default.not-Close
