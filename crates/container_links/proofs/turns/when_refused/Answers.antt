use Rattle.std.proofs.Common.{◌≡◌, refl}
use Rattle.tree_values.specs.declared.bytes.Bytes.{Bytes}
use Rattle.tree_values.specs.declared.class_id.ClassId.{ClassId}
use Rattle.tree_streams.specs.declared.stored.Stored.{Stored}
use Rattle.message_values.specs.declared.operation.Operation.{Operation}
use Rattle.message_values.specs.declared.operation.Operation.TheVariants.{InitNew, Load, InPlace, UiActivate}
use Rattle.message_values.specs.declared.operation.Operation.TheVariants.{UiDeactivate, InPlaceDeactivate, OpenWindow}
use Rattle.message_values.specs.declared.operation.Operation.TheVariants.{Edit, Save, HandsOff, SaveCompleted}
use Rattle.message_values.specs.declared.operation.Operation.TheVariants.{SaveDropped, Close}
use Rattle.container_links.specs.Answered.{when_refused}
use Rattle.container_links.specs.declared.turns.WhenRefused.TheVariants.{Unrefused}
use Rattle.container_links.proofs.turns.when_refused.Goals as goal

-- the operations that are not refused
unrefused : (op : Operation) → ((class : ClassId) → op ≡ InitNew class → ⊥)
    → ((class : ClassId) → (content : Stored) → op ≡ Load class content → ⊥)
    → ((bytes : Bytes) → op ≡ Edit bytes → ⊥) → Unrefused ≡ when_refused op
unrefused (InitNew class) f0 f1 f2 = absurd (f0 class refl)
unrefused (Load class content) f0 f1 f2 = absurd (f1 class content refl)
unrefused InPlace f0 f1 f2 = refl
unrefused (UiActivate g) f0 f1 f2 = refl
unrefused UiDeactivate f0 f1 f2 = refl
unrefused InPlaceDeactivate f0 f1 f2 = refl
unrefused OpenWindow f0 f1 f2 = refl
unrefused (Edit bytes) f0 f1 f2 = absurd (f2 bytes refl)
unrefused (Save k) f0 f1 f2 = refl
unrefused HandsOff f0 f1 f2 = refl
unrefused (SaveCompleted k storage) f0 f1 f2 = refl
unrefused (SaveDropped k) f0 f1 f2 = refl
unrefused (Close option) f0 f1 f2 = refl

pub returns-in-InitNew : goal.returns-in-InitNew
returns-in-InitNew c = rw c.in-InitNew.is

pub returns-in-Load : goal.returns-in-Load
returns-in-Load c = rw c.in-Load.is

pub returns-in-Edit : goal.returns-in-Edit
returns-in-Edit c = rw c.in-Edit.is

pub returns-in_default : goal.returns-in_default
returns-in_default c = unrefused _ c.in_default.not-InitNew c.in_default.not-Load c.in_default.not-Edit
