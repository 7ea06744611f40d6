-- Choices by tests.
use Rattle.std.proofs.Common.{◌≡◌, ℕ, Bool, true, false, cond, List, refl}

contrary : false ≡ true → ⊥
contrary p = cc

crossed : true ≡ false → ⊥
crossed p = cc

pub picked : (b : Bool) (x y : List ℕ) → b ≡ true → cond b x y ≡ x
picked true x y is = refl
picked false x y is = absurd (contrary is)

pub passed : (b : Bool) (x y : List ℕ) → b ≡ false → cond b x y ≡ y
passed false x y is = refl
passed true x y is = absurd (crossed is)
