-- What a frame shows, as text: a line of its menus, then each line of its cells.
use Rattle.std.specs.Prelude.{◌+◌, ◌-◌, ◌==◌, ◌&&◌, ◌||◌, ◌++◌, ℕ, zero, suc, Bool, List, [], ◌∷◌, Option, Some, None}
use Rattle.std.specs.Prelude.{Result, Ok, Err, if◌then◌else◌, nat_le, nat_lt, drop, replicate, take, slice_get}
use Rattle.std.specs.Prelude.{slice_index}
use Rattle.std.specs.List.{flat_map}
use Rattle.object_state.specs.Frames.{Ui, border_of, menu_of}
use Rattle.tree_streams.specs.declared.area.Area.{Area}
use Rattle.ole_model.specs.Presentations.{lines_read}
use Rattle.message_values.specs.Found.{nth}
use Rattle.container_model.specs.Record.{Record}
use Rattle.container_model.specs.declared.fault.ContainerFault.{ContainerFault}
use Rattle.container_model.specs.declared.fault.ContainerFault.TheVariants.{NoSuch}
use Rattle.container_model.specs.declared.record.Frame.{Frame}
use Rattle.container_model.specs.declared.record.Object.{Object}

-- the menu groups that there are, parted by one space
abbrev pub further : Option (List ℕ) → List ℕ
further None = []
further (Some text) = 32 ∷ text

abbrev pub menu_line : List (Option (List ℕ)) → List ℕ
menu_line groups = drop 1 (flat_map further groups) ++ 10 ∷ []

-- A line of a picture of text, counted from 0; each is ended by a line feed.
abbrev pub line_length : List ℕ → ℕ
line_length [] = 0
line_length (c ∷ cs) = if c == 10 then 0 else 1 + line_length cs

abbrev pub line_of : List ℕ → List ℕ
line_of text = take (line_length text) text

abbrev pub behind_line : List ℕ → List ℕ
behind_line text = drop (line_length text + 1) text

abbrev pub behind_lines : ℕ → List ℕ → List ℕ
behind_lines zero text = text
behind_lines (suc n) text = behind_line (behind_lines n text)

abbrev pub nth_line : ℕ → List ℕ → List ℕ
nth_line n text = line_of (behind_lines n text)

-- What an object shows in one line of its area: a line of its picture, where this is of text; else a line of its
-- outline, which is the first or the last one, or one between.
pub data Strip : Type 0 where
  Nothing : Strip
  Text : List ℕ → Strip
  Edge : Strip
  Sides : Strip

abbrev pub strip_in : ℕ → ℕ → Option (List ℕ) → Strip
strip_in height n (Some text) = Text (nth_line n text)
strip_in height n None = if (n == 0) || (n + 1 == height) then Edge else Sides

abbrev pub is_in : ℕ → ℕ → ℕ → Bool
is_in from count n = nat_le from n && nat_lt n (from + count)

abbrev pub strip_of : ℕ → Object → Strip
strip_of y o = if is_in o.area.y o.area.h y then strip_in o.area.h (y - o.area.y) (lines_read o.work.picture)
    else Nothing

-- The character at a column of its area, if it shows one there: an outline has corners `+`, `-` in its first and last
-- line and `|` in its first and last column.
abbrev pub is_side : ℕ → ℕ → Bool
is_side width n = (n == 0) || (n + 1 == width)

abbrev pub cell_in : ℕ → ℕ → Strip → Option ℕ
cell_in width n Nothing = None
cell_in width n (Text text) = slice_get text n
cell_in width n Edge = Some (if is_side width n then 43 else 45)
cell_in width n Sides = if is_side width n then Some 124 else None

unfoldable pub cell_at : Area → Strip → ℕ → Option ℕ
cell_at area strip x = if is_in area.x area.w x then cell_in area.w (x - area.x) strip else None

-- a line of the frame with what an object shows there; the first cell is of column x
abbrev pub or_left : ℕ → Option ℕ → ℕ
or_left c None = c
or_left c (Some shown) = shown

abbrev pub painted : Area → Strip → ℕ → List ℕ → List ℕ
painted area strip x [] = []
painted area strip x (c ∷ cs) = or_left c (cell_at area strip x) ∷ painted area strip (x + 1) cs

-- the objects of the frame, one over the other
abbrev pub painted_all : ℕ → ℕ → List Object → List ℕ → List ℕ
painted_all f y [] row = row
painted_all f y (o ∷ os) row = if o.frame == f then painted_all f y os (painted o.area (strip_of y o) 0 row)
    else painted_all f y os row

-- the border space (left, top, right, bottom) lies over all
abbrev pub is_border : ℕ → ℕ → List ℕ → ℕ → ℕ → Bool
is_border width height border y x =
    nat_lt x (slice_index border 0) || nat_lt y (slice_index border 1) || nat_le width (x + slice_index border 2) ||
    nat_le height (y + slice_index border 3)

abbrev pub bordered : ℕ → ℕ → List ℕ → ℕ → ℕ → List ℕ → List ℕ
bordered width height border y x [] = []
bordered width height border y x (c ∷ cs) = (if is_border width height border y x then 35 else c)
    ∷ bordered width height border y (x + 1) cs

-- one line of the frame's cells, which are spaces first
abbrev pub row : ℕ → Ui → List Object → ℕ → List ℕ
row f ui os y = bordered ui.width ui.height (border_of ui) y 0 (painted_all f y os (replicate ui.width 32)) ++ 10 ∷ []

-- the first so many lines of them
abbrev pub rows : ℕ → Ui → List Object → ℕ → List ℕ
rows f ui os zero = []
rows f ui os (suc n) = rows f ui os n ++ row f ui os n

-- the frame of number f, whose objects are among these
abbrev pub screen : ℕ → Frame → List Object → List ℕ
screen f frame os = menu_line (menu_of frame.ui.state) ++ rows f frame.ui os frame.ui.height

-- what a container shows of the frame of this number
abbrev pub shown_in : Record → ℕ → Option Frame → Result (List ℕ) ContainerFault
shown_in r f None = Err NoSuch
shown_in r f (Some frame) = Ok (screen f frame r.objects)

abbrev pub shown : Record → ℕ → Result (List ℕ) ContainerFault
shown r f = shown_in r f (nth r.frames f)
