-- Edits: how they are spelled, and what they do.
use Rattle.std.specs.Prelude.{◌<◌, ◌^◌, ◌+◌, ◌-◌, ◌&&◌, ℕ, Bool, true, List, [], ◌∷◌, ◌++◌, length, take, drop, nat_le}
use Rattle.std.specs.Prelude.{nat_eq, nat_lt, cond, Result, Ok, Err, filter, not}
use Rattle.std.specs.List.{list_all, list_any}
use Rattle.std.specs.Fmt.{decimal}
use Rattle.object_core.specs.Content.{Cell, Shape, box, line, Content, note, table, drawing, is_note_text, is_cell}
use Rattle.object_core.specs.Content.{is_shape, cell_place, cell_bytes, shape_bytes, spaced, NOTE_SIZE, CELL_SIZE}
use Rattle.object_core.specs.Content.{DRAWING_SIZE}
use Rattle.object_state.specs.Printable.{is_printable}
use Rattle.object_core.specs.Kinds.{Kind, Note, Table, Drawing}
use Rattle.object_core.specs.declared.fault.EmbedFault.{EmbedFault}
use Rattle.object_core.specs.declared.fault.EmbedFault.TheVariants.{BadEdit, TooBig}

-- a note's text grows at a place, or loses so many characters there; a cell is set or cleared; a shape is added,
-- removed by its number from 1, or moved to the end
pub data Edit : Type 0 where
  insert : ℕ → List ℕ → Edit
  delete : ℕ → ℕ → Edit
  set : Cell → List ℕ → Edit
  clear : Cell → Edit
  add : Shape → Edit
  remove : ℕ → Edit
  raise : ℕ → Edit

-- `i P TEXT`, `d P N`, `s CELL TEXT`, `c CELL`, a shape, `r I`, `u I`
abbrev pub spelled : Edit → List ℕ
spelled (insert p text) = 105 ∷ spaced (decimal p ∷ text ∷ [])
spelled (delete p n) = 100 ∷ spaced (decimal p ∷ decimal n ∷ [])
spelled (set c text) = 115 ∷ spaced (cell_bytes c ∷ text ∷ [])
spelled (clear c) = 99 ∷ spaced (cell_bytes c ∷ [])
spelled (add s) = shape_bytes s
spelled (remove i) = 114 ∷ spaced (decimal i ∷ [])
spelled (raise i) = 117 ∷ spaced (decimal i ∷ [])

-- the entries with a cell set, by row and then by column
abbrev pub with_cell : Cell → List ℕ → List (Cell × List ℕ) → List (Cell × List ℕ)
with_cell c text [] = (c, text) ∷ []
with_cell c text (e ∷ es) =
    cond (nat_lt (cell_place c) (cell_place e.0)) ((c, text) ∷ e ∷ es)
    (cond (nat_eq (cell_place c) (cell_place e.0)) ((c, text) ∷ es) (e ∷ with_cell c text es))

abbrev pub is_at : Cell → Cell × List ℕ → Bool
is_at c e = nat_eq (cell_place c) (cell_place e.0)

abbrev pub without_cell : Cell → List (Cell × List ℕ) → List (Cell × List ℕ)
without_cell c es = filter (λ e. not (is_at c e)) es

abbrev pub within : Bool → Bool → Content → Result Content EmbedFault
within asked fits c = cond asked (cond fits (Ok c) (Err TooBig)) (Err BadEdit)

-- The content after an edit. What is outside an edit's ranges is BadEdit; what passes a size is TooBig.
abbrev pub edited : Edit → Content → Result Content EmbedFault
edited (insert p text) (note t) = within (nat_le 1 (length text) && list_all is_note_text text && nat_le p (length t))
    (nat_le (length t + length text) NOTE_SIZE) (note (take p t ++ text ++ drop p t))
edited (delete p n) (note t) = within (nat_le 1 n && nat_le (p + n) (length t)) true (note (take p t ++ drop (p + n) t))
edited (set c text) (table es) = within (is_cell c && nat_le 1 (length text) && list_all is_printable text)
    (nat_le (length text) CELL_SIZE) (table (with_cell c text es))
edited (clear c) (table es) = within (is_cell c && list_any (is_at c) es) true (table (without_cell c es))
edited (add s) (drawing ss) = within (is_shape s) (nat_lt (length ss) DRAWING_SIZE) (drawing (ss ++ s ∷ []))
edited (remove i) (drawing ss) = within (nat_le 1 i && nat_le i (length ss)) true
    (drawing (take (i - 1) ss ++ drop i ss))
edited (raise i) (drawing ss) = within (nat_le 1 i && nat_le i (length ss)) true
    (drawing (take (i - 1) ss ++ drop i ss ++ take 1 (drop (i - 1) ss)))
edited _ c = Err BadEdit

-- whether each number of an edit is one of 32 bits
abbrev pub IsSmallShape : Shape → Type 0
IsSmallShape (box x y w h) = (x < 2 ^ 32) × (y < 2 ^ 32) × (w < 2 ^ 32) × (h < 2 ^ 32)
IsSmallShape (line x y d n) = (x < 2 ^ 32) × (y < 2 ^ 32) × (n < 2 ^ 32)

abbrev pub IsSmall : Edit → Type 0
IsSmall (insert p text) = p < 2 ^ 32
IsSmall (delete p n) = (p < 2 ^ 32) × (n < 2 ^ 32)
IsSmall (set c text) = c.row < 2 ^ 32
IsSmall (clear c) = c.row < 2 ^ 32
IsSmall (add s) = IsSmallShape s
IsSmall (remove i) = i < 2 ^ 32
IsSmall (raise i) = i < 2 ^ 32

abbrev pub kind_edited : Edit → Kind
kind_edited (insert p text) = Note
kind_edited (delete p n) = Note
kind_edited (set c text) = Table
kind_edited (clear c) = Table
kind_edited (add s) = Drawing
kind_edited (remove i) = Drawing
kind_edited (raise i) = Drawing
