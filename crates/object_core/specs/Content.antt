-- What embedded objects contain: a note a text, a table texts in cells, a drawing shapes.
use Rattle.std.specs.Prelude.{◌+◌, ◌*◌, ◌&&◌, ◌||◌, ℕ, Bool, true, List, [], ◌∷◌, ◌++◌, length, map, nat_le, nat_eq}
use Rattle.std.specs.Prelude.{nat_lt, codes}
use Rattle.std.specs.List.{list_all, flat_map}
use Rattle.std.specs.Fmt.{decimal}
use Rattle.tree_streams.specs.declared.streams.NamedStream.{NamedStream}
use Rattle.object_state.specs.Printable.{is_printable}

-- a cell by its column, from 0 for A, and its row, from 1
pub record Cell : Type 0 where
  pub column : ℕ
  pub row : ℕ

pub data Direction : Type 0 where
  across : Direction
  down : Direction

-- a box by its left column, its top line, its width and its height; a line by where it begins, where it goes and how
-- long it is
pub data Shape : Type 0 where
  box : ℕ → ℕ → ℕ → ℕ → Shape
  line : ℕ → ℕ → Direction → ℕ → Shape

-- The contents of the three kinds. A table has its set cells by row and then by column.
pub data Content : Type 0 where
  note : List ℕ → Content
  table : List (Cell × List ℕ) → Content
  drawing : List Shape → Content

-- what a note may have: printable characters and line feeds
abbrev pub is_note_text : ℕ → Bool
is_note_text c = is_printable c || nat_eq c 10

-- cells A1 to Z99
abbrev pub is_cell : Cell → Bool
is_cell c = nat_lt c.column 26 && nat_le 1 c.row && nat_le c.row 99

-- the place of a cell among all, by row and then by column
abbrev pub cell_place : Cell → ℕ
cell_place c = 26 * c.row + c.column

-- a box or a line begins in columns and lines 0 to 99, and is 1 to 100 wide, high or long
abbrev pub is_shape : Shape → Bool
is_shape (box x y w h) = nat_le x 99 && nat_le y 99 && nat_le 1 w && nat_le w 100 && nat_le 1 h && nat_le h 100
is_shape (line x y d n) = nat_le x 99 && nat_le y 99 && nat_le 1 n && nat_le n 100

-- the sizes: a note's characters, a cell's characters, a drawing's shapes
abbrev pub NOTE_SIZE : ℕ
NOTE_SIZE = 65536

abbrev pub CELL_SIZE : ℕ
CELL_SIZE = 40

abbrev pub DRAWING_SIZE : ℕ
DRAWING_SIZE = 256

-- a cell's text: 1 to 40 printable characters
abbrev pub is_cell_text : List ℕ → Bool
is_cell_text text = nat_le 1 (length text) && nat_le (length text) CELL_SIZE && list_all is_printable text

abbrev pub is_entry : Cell × List ℕ → Bool
is_entry e = is_cell e.0 && is_cell_text e.1

-- each number is greater than the one before it
abbrev pub is_rising : List ℕ → Bool
is_rising [] = true
is_rising (n ∷ []) = true
is_rising (n ∷ m ∷ ns) = nat_lt n m && is_rising (m ∷ ns)

-- A content within its kind's characters, ranges and sizes; a table's cells stand by row and then by column.
abbrev pub is_content : Content → Bool
is_content (note text) = nat_le (length text) NOTE_SIZE && list_all is_note_text text
is_content (table entries) = is_rising (map (λ e. cell_place e.0) entries) && list_all is_entry entries
is_content (drawing shapes) = nat_le (length shapes) DRAWING_SIZE && list_all is_shape shapes

-- How contents are spelled in streams.
abbrev pub cell_bytes : Cell → List ℕ
cell_bytes c = (65 + c.column) ∷ decimal c.row

abbrev pub entry_bytes : Cell × List ℕ → List ℕ
entry_bytes e = cell_bytes e.0 ++ 32 ∷ (e.1 ++ 10 ∷ [])

abbrev pub direction_byte : Direction → ℕ
direction_byte across = 104
direction_byte down = 118

abbrev pub spaced : List (List ℕ) → List ℕ
spaced [] = []
spaced (w ∷ ws) = 32 ∷ (w ++ spaced ws)

-- `b X Y W H` or `l X Y D N`
abbrev pub shape_bytes : Shape → List ℕ
shape_bytes (box x y w h) = 98 ∷ spaced (decimal x ∷ decimal y ∷ decimal w ∷ decimal h ∷ [])
shape_bytes (line x y d n) = 108 ∷ spaced (decimal x ∷ decimal y ∷ (direction_byte d ∷ []) ∷ decimal n ∷ [])

abbrev pub shape_line : Shape → List ℕ
shape_line s = shape_bytes s ++ 10 ∷ []

-- a content is held in one stream, under the name that its kind has for it
abbrev pub stream_name : Content → List ℕ
stream_name (note text) = codes "Text"
stream_name (table entries) = codes "Cells"
stream_name (drawing shapes) = codes "Shapes"

abbrev pub stream_bytes : Content → List ℕ
stream_bytes (note text) = text
stream_bytes (table entries) = flat_map entry_bytes entries
stream_bytes (drawing shapes) = flat_map shape_line shapes

abbrev pub stored : Content → List NamedStream
stored c = record { name = stream_name c; bytes = stream_bytes c } ∷ []
