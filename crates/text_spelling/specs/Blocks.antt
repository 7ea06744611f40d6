-- Characters of a word by pairs, and digits by numbers.
use Rattle.std.specs.Prelude.{ℕ, Bool, true, Option, Some, None, List, [], ◌∷◌, ◌&&◌, nat_lt, cond}

-- the elements at even places
abbrev pub at_even : List ℕ → List ℕ
at_even [] = []
at_even (a ∷ []) = a ∷ []
at_even (a ∷ b ∷ xs) = a ∷ at_even xs

-- the elements at odd places
abbrev pub at_odd : List ℕ → List ℕ
at_odd [] = []
at_odd (a ∷ []) = []
at_odd (a ∷ b ∷ xs) = b ∷ at_odd xs

-- what a number tells of a digit: its value, or that there is none
abbrev pub value_told : ℕ → Option ℕ
value_told value = cond (nat_lt value 16) (Some value) None

-- whether each number is below a limit
abbrev pub is_all_below : ℕ → List ℕ → Bool
is_all_below limit [] = true
is_all_below limit (x ∷ xs) = nat_lt x limit && is_all_below limit xs
