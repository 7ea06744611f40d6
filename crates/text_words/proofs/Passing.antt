-- Tests that hold.
use Rattle.std.proofs.Common.{◌≡◌, ◌≤◌, ◌<◌, ◌&&◌, ℕ, Bool, true, false, cond, nat_le, nat_lt, nat_eq, refl, arith}
use Rattle.std.proofs.lemmas.Bool.Decides.{nat_tests}

pub both : (a b : Bool) → a ≡ true → b ≡ true → (a && b) ≡ true
both a b s t = cc

pub first_of_both : (a b : Bool) → (a && b) ≡ true → a ≡ true
first_of_both true b s = refl
first_of_both false b s = cc

pub second_of_both : (a b : Bool) → (a && b) ≡ true → b ≡ true
second_of_both true b s = s
second_of_both false b s = cc

pub told_cond : {A : Type 0} (P : A → Type 0) (b : Bool) (x y : A) → (b ≡ true → P x) → (b ≡ false → P y)
    → P (cond b x y)
told_cond P true x y f g = f refl
told_cond P false x y f g = g refl

pub lt_passes : (m n : ℕ) → m < n → nat_lt m n ≡ true
lt_passes m n h = grind (arith, nat_tests)

pub lt_told : (m n : ℕ) → nat_lt m n ≡ true → m < n
lt_told m n h = grind (arith, nat_tests)

pub le_told_false : (m n : ℕ) → nat_lt m n ≡ false → n ≤ m
le_told_false m n h = grind (arith, nat_tests)

pub eq_told : (m n : ℕ) → nat_eq m n ≡ true → m ≡ n
eq_told m n h = grind (arith, nat_tests)

pub ne_told : (m n : ℕ) → nat_eq m n ≡ false → m ≡ n → ⊥
ne_told m n h e = grind (arith, nat_tests)

pub le_passes : (m n : ℕ) → m ≤ n → nat_le m n ≡ true
le_passes m n h = grind (arith, nat_tests)

pub le_told : (m n : ℕ) → nat_le m n ≡ true → m ≤ n
le_told m n h = grind (arith, nat_tests)
