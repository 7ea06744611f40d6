-- Servers that are still to be started.
use Rattle.std.specs.Prelude.{◌≡◌, ◌⊎◌, ℕ, List, [], ◌∷◌}
use Rattle.std.specs.List.{AllByRecursion}

-- This number is among these.
abbrev pub IsIn : ℕ → List ℕ → Type 0
IsIn s [] = ⊥
IsIn s (t ∷ ts) = (t ≡ s) ⊎ IsIn s ts

-- Each of these is.
abbrev pub AreIn : List ℕ → List ℕ → Type 0
AreIn ss ts = AllByRecursion (λ s. IsIn s ts) ss
