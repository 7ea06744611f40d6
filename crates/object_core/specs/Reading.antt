-- Reading edits and contents from bytes: what is read is what was spelled.
use Rattle.std.specs.Prelude.{◌≡◌, ◌-◌, ℕ, List, [], ◌∷◌, cond, nat_eq, nat_le, Option, Some, None, option_map}
use Rattle.std.specs.Prelude.{option_and_then}
use Rattle.std.specs.List.{join_with_byte}
use Rattle.text_words.specs.Words.{pieces, words, number_read}
use Rattle.object_core.specs.Content.{Cell, Shape, box, line, Direction, across, down, Content, note, table, drawing}
use Rattle.object_core.specs.Kinds.{Kind, Note, Table, Drawing}
use Rattle.object_core.specs.Edits.{Edit, insert, delete, set, clear, add, remove, raise, spelled, IsSmall, kind_edited}

-- words with their spaces again
abbrev pub text_of : List (List ℕ) → List ℕ
text_of ws = join_with_byte 32 ws

-- the cell that a word spells: a letter from A, and a number
abbrev pub cell_of : List ℕ → Option Cell
cell_of [] = None
cell_of (c ∷ ds) = cond (nat_le 65 c) (option_map (λ n. record { column = c - 65; row = n }) (number_read ds)) None

abbrev pub direction_of : List ℕ → Option Direction
direction_of (c ∷ []) = cond (nat_eq c 104) (Some across) (cond (nat_eq c 118) (Some down) None)
direction_of _ = None

-- what two numbers make, where both are spelled
abbrev pub with_two : {A : Type 0} → (ℕ → ℕ → A) → Option ℕ → Option ℕ → Option A
with_two f (Some a) (Some b) = Some (f a b)
with_two f _ _ = None

abbrev pub box_of : Option (ℕ × ℕ) → Option (ℕ × ℕ) → Option Shape
box_of (Some at) (Some size) = Some (box at.0 at.1 size.0 size.1)
box_of _ _ = None

abbrev pub line_of : Option (ℕ × ℕ) → Option Direction → Option ℕ → Option Shape
line_of (Some at) (Some d) (Some n) = Some (line at.0 at.1 d n)
line_of _ _ _ = None

abbrev pub pair_of : List ℕ → List ℕ → Option (ℕ × ℕ)
pair_of a b = with_two (λ m n. (m, n)) (number_read a) (number_read b)

-- the shape that words spell, given the letter in front
abbrev pub shape_of : ℕ → List (List ℕ) → Option Shape
shape_of c (x ∷ y ∷ w ∷ h ∷ []) =
    cond (nat_eq c 98) (box_of (pair_of x y) (pair_of w h))
    (cond (nat_eq c 108) (line_of (pair_of x y) (direction_of w) (number_read h)) None)
shape_of c _ = None

-- what one number makes
abbrev pub one_number : (ℕ → Edit) → List (List ℕ) → Option Edit
one_number f (n ∷ []) = option_map f (number_read n)
one_number f _ = None

abbrev pub place_and_text : List (List ℕ) → Option Edit
place_and_text (p ∷ t ∷ ts) = option_map (λ n. insert n (text_of (t ∷ ts))) (number_read p)
place_and_text _ = None

abbrev pub place_and_count : List (List ℕ) → Option Edit
place_and_count (p ∷ n ∷ []) = with_two delete (number_read p) (number_read n)
place_and_count _ = None

abbrev pub cell_and_text : List (List ℕ) → Option Edit
cell_and_text (c ∷ t ∷ ts) = option_map (λ cell. set cell (text_of (t ∷ ts))) (cell_of c)
cell_and_text _ = None

abbrev pub cell_alone : List (List ℕ) → Option Edit
cell_alone (c ∷ []) = option_map clear (cell_of c)
cell_alone _ = None

-- the edits of each kind, by the letter in front
abbrev pub edit_by : Kind → ℕ → List (List ℕ) → Option Edit
edit_by Note c ws = cond (nat_eq c 105) (place_and_text ws) (cond (nat_eq c 100) (place_and_count ws) None)
edit_by Table c ws = cond (nat_eq c 115) (cell_and_text ws) (cond (nat_eq c 99) (cell_alone ws) None)
edit_by Drawing c ws =
    cond (nat_eq c 114) (one_number remove ws)
    (cond (nat_eq c 117) (one_number raise ws) (option_map add (shape_of c ws)))

abbrev pub edit_in : Kind → List (List ℕ) → Option Edit
edit_in k ((c ∷ []) ∷ ws) = edit_by k c ws
edit_in k _ = None

-- The edit of a kind that bytes spell, if any.
abbrev pub edit_of : Kind → List ℕ → Option Edit
edit_of k bytes = edit_in k (words bytes)

-- the lines of bytes of which each is ended by a line feed
abbrev pub whole_lines : List (List ℕ) → Option (List (List ℕ))
whole_lines [] = None
whole_lines ([] ∷ []) = Some []
whole_lines (l ∷ []) = None
whole_lines (l ∷ m ∷ more) = option_map (λ ls. l ∷ ls) (whole_lines (m ∷ more))

abbrev pub lines_of : List ℕ → Option (List (List ℕ))
lines_of bytes = whole_lines (pieces 10 bytes)

-- what each line spells, if each spells something
abbrev pub each : {A : Type 0} → (List ℕ → Option A) → List (List ℕ) → Option (List A)
each f [] = Some []
each f (l ∷ ls) = option_and_then (λ a. option_map (λ more. a ∷ more) (each f ls)) (f l)

abbrev pub entry_in : List (List ℕ) → Option (Cell × List ℕ)
entry_in (c ∷ t ∷ ts) = option_map (λ cell. (cell, text_of (t ∷ ts))) (cell_of c)
entry_in _ = None

abbrev pub shape_in : List (List ℕ) → Option Shape
shape_in ((c ∷ []) ∷ ws) = shape_of c ws
shape_in _ = None

-- the content of a kind that a stream's bytes spell, whatever its sizes
abbrev pub content_of : Kind → List ℕ → Option Content
content_of Note bytes = Some (note bytes)
content_of Table bytes = option_and_then (λ ls. option_map table (each (λ l. entry_in (words l)) ls)) (lines_of bytes)
content_of Drawing bytes = option_and_then (λ ls. option_map drawing (each (λ l. shape_in (words l)) ls))
    (lines_of bytes)

-- What is spelled is read, and what is read was so spelled.
abbrev pub SpelledIsRead : Type 0
SpelledIsRead = (e : Edit) → IsSmall e → edit_of (kind_edited e) (spelled e) ≡ Some e

abbrev pub ReadWasSpelled : Type 0
ReadWasSpelled = (k : Kind) (bytes : List ℕ) (e : Edit) → edit_of k bytes ≡ Some e → spelled e ≡ bytes
