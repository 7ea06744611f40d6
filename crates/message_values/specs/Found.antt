-- Lists whose items are found by a test, and lists whose items are found by their numbers, from 1.
use Rattle.std.specs.Prelude.{◌≡◌, ◌<◌, ℕ, zero, suc, Bool, List, [], ◌∷◌, length, Option, Some, None, if◌then◌else◌}
use Rattle.std.specs.Prelude.{slice_get, slice_set}

-- the first item that passes
abbrev pub find : {A : Type 0} → (A → Bool) → List A → Option A
find test [] = None
find test (x ∷ xs) = if test x then Some x else find test xs

-- the list with a in the place of the first item that passes
abbrev pub put : {A : Type 0} → (A → Bool) → A → List A → List A
put test a [] = []
put test a (x ∷ xs) = if test x then a ∷ xs else x ∷ put test a xs

-- the first item that passes stands at i
pub record IsPlace {A : Type 0} (test : A → Bool) (xs : List A) (i : ℕ) : Type 0 where
  pub fits : i < length xs
  pub found : find test xs ≡ slice_get xs i
  pub puts : (a : A) → put test a xs ≡ slice_set xs i a

-- the item of this number
abbrev pub nth : {A : Type 0} → List A → ℕ → Option A
nth xs zero = None
nth xs (suc i) = slice_get xs i

-- the list with a as the item of this number
abbrev pub set_nth : {A : Type 0} → List A → ℕ → A → List A
set_nth xs zero a = xs
set_nth xs (suc i) a = slice_set xs i a
