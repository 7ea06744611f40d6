-- What objects look like: lines of printable characters.
use Rattle.std.specs.Prelude.{◌+◌, ◌&&◌, ◌||◌, ℕ, Bool, List, [], ◌∷◌, ◌++◌, length, map, take, nat_le, nat_eq, nat_lt}
use Rattle.std.specs.Prelude.{cond}
use Rattle.std.specs.List.{flat_map, range_with_len}
use Rattle.text_words.specs.Words.{pieces}
use Rattle.object_core.specs.Content.{Cell, Shape, box, line, across, down, Content, note, table, drawing, cell_bytes}

-- the pieces of a text that line feeds end, and a last one if it isn't empty
abbrev pub ended : List (List ℕ) → List (List ℕ)
ended [] = []
ended (x ∷ []) = cond (nat_eq (length x) 0) [] (x ∷ [])
ended (x ∷ y ∷ more) = x ∷ ended (y ∷ more)

abbrev pub text_lines : List ℕ → List (List ℕ)
text_lines text = ended (pieces 10 text)

-- a line of a table's picture: `CELL=TEXT`
abbrev pub cell_line : Cell × List ℕ → List ℕ
cell_line e = cell_bytes e.0 ++ 61 ∷ e.1

-- whether a place lies within so many from a start
abbrev pub is_within : ℕ → ℕ → ℕ → Bool
is_within start count at = nat_le start at && nat_lt at (start + count)

-- the first or the last of so many from a start
abbrev pub is_end : ℕ → ℕ → ℕ → Bool
is_end start count at = nat_eq at start || nat_eq (at + 1) (start + count)

-- The character that a shape paints at a column and a line, over the one below. A box is painted by its outline: `+`
-- at the corners, `-` in its first and last line, `|` in its first and last column.
abbrev pub painted : Shape → ℕ → ℕ → ℕ → ℕ
painted (box x y w h) column row below =
    cond (is_within x w column && is_within y h row)
    (cond (is_end y h row) (cond (is_end x w column) 43 45) (cond (is_end x w column) 124 below))
    below
painted (line x y across n) column row below = cond (is_within x n column && nat_eq y row) 45 below
painted (line x y down n) column row below = cond (nat_eq x column && is_within y n row) 124 below

-- the character at a column and a line: that of the last shape that paints there, else a space
abbrev pub glyph_over : List Shape → ℕ → ℕ → ℕ → ℕ
glyph_over [] column row below = below
glyph_over (s ∷ ss) column row below = glyph_over ss column row (painted s column row below)

abbrev pub glyph : List Shape → ℕ → ℕ → ℕ
glyph ss column row = glyph_over ss column row 32

abbrev pub drawn_line : List Shape → ℕ → List ℕ
drawn_line ss row = map (λ column. glyph ss column row) (range_with_len 0 40)

-- A note shows its first 20 lines, each cut to 60 characters; a table its first 20 cells; a drawing 12 lines of 40.
abbrev pub picture : Content → List (List ℕ)
picture (note text) = map (take 60) (take 20 (text_lines text))
picture (table entries) = map cell_line (take 20 entries)
picture (drawing shapes) = map (drawn_line shapes) (range_with_len 0 12)

abbrev pub ended_line : List ℕ → List ℕ
ended_line l = l ++ 10 ∷ []

-- the lines of a picture, each ended by a line feed
abbrev pub picture_bytes : Content → List ℕ
picture_bytes c = flat_map ended_line (picture c)
