use Rattle.std.proofs.Common.{◌≡◌, IfSome, Option, Some, subst}
use Rattle.write_zeros.specs.Zeroed.{IsZeroed}
use Rattle.store_images.proofs.image.Image.made.Goals as goal

-- what is said of what there is holds where it is there
there : {A : Type 0} (P : Type 0) (x : Option A) (a : A) → x ≡ Some a → IfSome x (λ y. P) → P
there P x a e h = subst (λ z. IfSome z (λ y. P)) e h

pub returns-clause-zeroed : goal.returns-clause-zeroed
returns-clause-zeroed c =
    subst IsZeroed c.deref.ensures.value (there (IsZeroed c.deref.result.now) c.in-Ok-Some.field-0
    c.in-Ok-Some.field-0-0 c.in-Ok-Some.field-0-is c.in-Ok-Some.ensures)
