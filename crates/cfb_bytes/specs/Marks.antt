-- Marks of sectors or entries that were met.
use Rattle.std.specs.Prelude.{◌≢◌, ℕ, Bool, true, List, [], ◌∷◌, slice_set}
use Rattle.std.specs.List.{AllPairs}

-- no number stands twice
abbrev pub AreDistinct : List ℕ → Type 0
AreDistinct ns = AllPairs (λ m n. m ≢ n) ns

-- with these marked
abbrev pub set_all : List Bool → List ℕ → List Bool
set_all used [] = used
set_all used (n ∷ ns) = set_all (slice_set used n true) ns
