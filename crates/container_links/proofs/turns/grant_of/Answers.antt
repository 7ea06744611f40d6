use Rattle.std.proofs.Common.{◌≡◌, ℕ, None, refl}
use Rattle.message_values.specs.declared.operation.Operation.{Operation}
use Rattle.message_values.specs.declared.operation.Operation.TheVariants.{InitNew, Load, InPlace, UiActivate}
use Rattle.message_values.specs.declared.operation.Operation.TheVariants.{UiDeactivate, InPlaceDeactivate, OpenWindow}
use Rattle.message_values.specs.declared.operation.Operation.TheVariants.{Edit, Save, HandsOff, SaveCompleted}
use Rattle.message_values.specs.declared.operation.Operation.TheVariants.{SaveDropped, Close}
use Rattle.container_links.specs.Answered.{grant_of}
use Rattle.container_links.proofs.turns.grant_of.Goals as goal

-- the operations that have no grant
no_grant : (op : Operation) → ((g : ℕ) → op ≡ UiActivate g → ⊥) → None ≡ grant_of op
no_grant (InitNew class) f0 = refl
no_grant (Load class content) f0 = refl
no_grant InPlace f0 = refl
no_grant (UiActivate g) f0 = absurd (f0 g refl)
no_grant UiDeactivate f0 = refl
no_grant InPlaceDeactivate f0 = refl
no_grant OpenWindow f0 = refl
no_grant (Edit bytes) f0 = refl
no_grant (Save k) f0 = refl
no_grant HandsOff f0 = refl
no_grant (SaveCompleted k storage) f0 = refl
no_grant (SaveDropped k) f0 = refl
no_grant (Close option) f0 = refl

pub returns-in-UiActivate : goal.returns-in-UiActivate
returns-in-UiActivate c = rw c.in-UiActivate.is

pub returns-in_default : goal.returns-in_default
returns-in_default c = no_grant _ c.in_default.not-UiActivate
