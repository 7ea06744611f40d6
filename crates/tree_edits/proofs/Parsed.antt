-- Words that are parsed, or not.
use Rattle.std.proofs.Common.{◌≡◌, Option, Some, None, Result, Err, refl, subst, rules}
use Rattle.std.specs.Prelude.{◌↔◌, IsOk}

no_ok : (T : Type 0) (E : Type 0) (e : E) → IsOk {T = T} {E = E} (Err e) → ⊥
no_ok T E e h = search rules

pub none_parsed : (T : Type 0) (E : Type 0) (A : Type 0) (r : Result T E) (e : E) (p : Option A) → r ≡ Err e
    → (IsOk r ↔ ((u : A) × (p ≡ Some u))) → None ≡ p
none_parsed T E A r e None is ok = refl
none_parsed T E A r e (Some u) is ok = let P : Result T E → Type 0 = IsOk in
    absurd (no_ok T E e (subst P is (ok.1 (u, refl))))
