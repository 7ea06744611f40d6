-- How sectors are painted; clauses of functions inside the crate cite these.
use Rattle.std.specs.Prelude.{◌≡◌, ◌<◌, ℕ, List, cond, length, slice_index}
use Rattle.tell_maps.specs.Maps.{is_in}

-- some sectors have their marks, and the others stayed as they were
abbrev pub Paints : (ℕ → ℕ) → List ℕ → List ℕ → List ℕ → Type 0
Paints mark ns old new = (n : ℕ) → n < length old → slice_index new n ≡ cond (is_in ns n) (mark n) (slice_index old n)
