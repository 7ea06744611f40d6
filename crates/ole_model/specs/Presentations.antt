-- The stream "\2OlePres000" (MS-OLEDS 2.3.4), where it holds a picture of text.
use Rattle.std.specs.Prelude.{ℕ, ◌+◌, ◌-◌, ◌||◌, ◌&&◌, ◌∷◌, ◌++◌, List, [], Bool, cond, length, take, drop, nat_eq}
use Rattle.std.specs.Prelude.{nat_le, nat_lt, slice_index, count_by, Option, Some, None}
use Rattle.std.specs.Int.{w32, from_le_bytes, to_le_bytes}
use Rattle.std.specs.List.{list_all, starts_with}
use Rattle.ole_model.specs.declared.presentation.Presentation.{Presentation}
use Rattle.ole_model.specs.declared.presentation.Presentation.TheVariants.{Text, Other}

-- how many bytes stand before the data
abbrev pub BEFORE_DATA : ℕ
BEFORE_DATA = 48

-- the first number that doesn't fit the field of the data's size
abbrev pub PAST_DATA : ℕ
PAST_DATA = 0x100000000

-- The fields before the advise flags: the clipboard format "OleCon Text", no target device (its size field has the
-- value 4), the aspect for content, the index -1.
abbrev pub front : List ℕ
front = 12 ∷ 0 ∷ 0 ∷ 0 ∷ 79 ∷ 108 ∷ 101 ∷ 67 ∷ 111 ∷ 110 ∷ 32 ∷ 84 ∷ 101 ∷ 120 ∷ 116 ∷ 0 ∷ 4 ∷ 0 ∷ 0 ∷ 0 ∷ 1 ∷ 0 ∷ 0
    ∷ 0 ∷ 255 ∷ 255 ∷ 255 ∷ 255 ∷ []

abbrev pub is_printable : ℕ → Bool
is_printable c = nat_le 32 c && nat_le c 126

-- a character of a line, or the line feed that ends one
abbrev pub is_line_byte : ℕ → Bool
is_line_byte c = nat_eq c 10 || is_printable c

-- Lines of printable characters, each ended by a line feed.
unfoldable pub are_lines : List ℕ → Bool
are_lines lines = list_all is_line_byte lines &&
    (nat_eq (length lines) 0 || nat_eq (slice_index lines (length lines - 1)) 10)

-- how many lines there are
abbrev pub height : List ℕ → ℕ
height lines = count_by (λ c. nat_eq c 10) lines

abbrev pub longer : ℕ → ℕ → ℕ
longer a b = cond (nat_lt a b) b a

-- the length of the longest line, where one of `best` characters is known and the first one has `before` characters
-- before these
abbrev pub longest : ℕ → ℕ → List ℕ → ℕ
longest best before [] = best
longest best before (c ∷ cs) = cond (nat_eq c 10) (longest (longer best before) 0 cs) (longest best (before + 1) cs)

abbrev pub width : List ℕ → ℕ
width lines = longest 0 0 lines

-- Behind the front: advise flags, a reserved field, width, height, the size of the data, the data.
abbrev pub presentation_bytes : List ℕ → List ℕ
presentation_bytes lines = front ++ to_le_bytes w32 2 ++ to_le_bytes w32 0 ++ to_le_bytes w32 (width lines)
    ++ to_le_bytes w32 (height lines)
    ++ to_le_bytes w32 (length lines) ++ lines

-- lines can be written where their size fits its field
abbrev pub lines_written : List ℕ → Option (List ℕ)
lines_written lines = cond (are_lines lines && nat_lt (length lines) PAST_DATA) (Some (presentation_bytes lines)) None

-- the size of the data, as the last four of 48 bytes say
unfoldable pub size_of : List ℕ → ℕ
size_of head = from_le_bytes w32 (take 4 (drop 44 head))

-- data of so many bytes, where it is whole and lines
unfoldable pub whole_lines : ℕ → List ℕ → Option (List ℕ)
whole_lines size bytes = cond (nat_le size (length bytes) && are_lines (take size bytes)) (Some (take size bytes)) None

-- The lines behind the first 48 bytes, which begin with just this front. Flags, reserved field, width and height are
-- free, and so is what stands behind the data.
abbrev pub lines_behind : List ℕ → List ℕ → Option (List ℕ)
lines_behind head bytes = cond (starts_with nat_eq head front) (whole_lines (size_of head) bytes) None

-- the lines of a picture of text
abbrev pub lines_read : List ℕ → Option (List ℕ)
lines_read bytes = cond (nat_lt (length bytes) BEFORE_DATA) None
    (lines_behind (take BEFORE_DATA bytes) (drop BEFORE_DATA bytes))

abbrev pub picture : List ℕ → Option (List ℕ) → Presentation
picture bytes None = Other bytes
picture bytes (Some lines) = Text lines

-- what bytes are as a picture; what isn't text is kept as it is
abbrev pub presentation : List ℕ → Presentation
presentation bytes = picture bytes (lines_read bytes)
