-- Painting on a canvas of 12 lines of 40 characters, which stand one line after the other.
use Rattle.std.specs.Prelude.{◌+◌, ◌*◌, ◌<◌, ◌≡◌, ◌&&◌, ℕ, List, cond, nat_eq, slice_index}
use Rattle.object_core.specs.Pictures.{is_end, is_within}

-- the character at a column and a line
abbrev pub cell_at : List ℕ → ℕ → ℕ → ℕ
cell_at cells column row = slice_index cells (40 * row + column)

-- Each cell is painted over what it was, as told by its column, its line and what it was.
abbrev pub Painted : (ℕ → ℕ → ℕ → ℕ) → List ℕ → List ℕ → Type 0
Painted over before after = (column row : ℕ) → column < 40 → row < 12
    → cell_at after column row ≡ over column row (cell_at before column row)

-- so many cells of a line, from a column on, each with its own glyph
abbrev pub along : ℕ → ℕ → ℕ → (ℕ → ℕ) → ℕ → ℕ → ℕ → ℕ
along x y count glyph column row below = cond (is_within x count column && nat_eq y row) (glyph column) below

-- a glyph for the first and the last of so many cells, and one for those between them
abbrev pub edge : ℕ → ℕ → ℕ → ℕ → ℕ → ℕ
edge x count corner inner column = cond (is_end x count column) corner inner

-- so many cells of a column, from a line on
abbrev pub downward : ℕ → ℕ → ℕ → ℕ → ℕ → ℕ → ℕ
downward x y count column row below = cond (nat_eq x column && is_within y count row) 124 below
