-- Pictures are lines of printable characters.
use Rattle.std.proofs.Common.{◌≡◌, ◌≤◌, ◌<◌, ◌+◌, ◌-◌, ◌&&◌, ◌||◌, ℕ, Bool, true, false, cond, List, [], ◌∷◌, ◌++◌}
use Rattle.std.proofs.Common.{length, map, take, get_or, refl, ap, sym, ◌∙◌, arith, nat_le, nat_lt, nat_eq}
use Rattle.std.proofs.Common.{length-append, append_assoc, subst}
use Rattle.std.proofs.lemmas.Bool.Decides.{nat_tests}
use Rattle.std.specs.List.{list_all, flat_map, onto_first, range_with_len}
use Rattle.std.specs.Char.{is_ascii_digit}
use Rattle.std.specs.Str.{all_ascii_digits}
use Rattle.std.specs.Fmt.{decimal}
use Rattle.std.proofs.lemmas.Fmt.{digits_decimal}
use Rattle.object_state.specs.Printable.{is_printable}
use Rattle.object_core.specs.Content.{Cell, Shape, box, line, across, down, Content, note, table, drawing, is_content}
use Rattle.object_core.specs.Content.{is_note_text, is_cell, is_cell_text, is_entry, is_rising, cell_bytes, cell_place}
use Rattle.object_core.specs.Content.{CELL_SIZE, NOTE_SIZE}
use Rattle.object_core.specs.Pictures.{ended, text_lines, cell_line, is_within, is_end, painted, glyph_over, glyph}
use Rattle.object_core.specs.Pictures.{drawn_line, picture, ended_line, picture_bytes}
use Rattle.text_words.specs.Words.{pieces}
use Rattle.text_words.proofs.Numerals.{numerals}
use Rattle.text_words.proofs.Passing.{both, first_of_both, second_of_both, told_cond, le_told, lt_told}
use Rattle.object_core.proofs.Staying.{list_all-take, list_all-joined}
use Rattle.ole_model.specs.Presentations.{is_line_byte, are_lines}
use Rattle.ole_model.proofs.Again.{at-end}

abbrev pub is_line : List ℕ → Bool
is_line l = list_all is_printable l

printable_made : (c : ℕ) → 32 ≤ c → c ≤ 126 → is_printable c ≡ true
printable_made c l h = grind (arith, nat_tests)

first_of_two : (a b : Bool) → (a || b) ≡ true → b ≡ false → a ≡ true
first_of_two true b s n = refl
first_of_two false b s n = cc

-- a text's pieces between line feeds
onto_line : (c : ℕ) (ls : List (List ℕ)) → is_printable c ≡ true → list_all is_line ls ≡ true
    → list_all is_line (onto_first c ls) ≡ true
onto_line c [] p s = both (is_line (c ∷ [])) true (both (is_printable c) true p refl) refl
onto_line c (l ∷ ls) p s =
    both (is_line (c ∷ l)) (list_all is_line ls)
    (both (is_printable c) (is_line l) p (first_of_both (is_line l) (list_all is_line ls) s))
    (second_of_both (is_line l) (list_all is_line ls) s)

piece_lines : (text : List ℕ) → list_all is_note_text text ≡ true → list_all is_line (pieces 10 text) ≡ true
piece_lines [] s = refl
piece_lines (c ∷ cs) s =
    let more = piece_lines cs (second_of_both (is_note_text c) (list_all is_note_text cs) s) in
    told_cond (λ ls. list_all is_line ls ≡ true) (nat_eq c 10) ([] ∷ pieces 10 cs) (onto_first c (pieces 10 cs))
    (λ feed. more)
    (λ other. onto_line c (pieces 10 cs)
    (first_of_two (is_printable c) (nat_eq c 10) (first_of_both (is_note_text c) (list_all is_note_text cs) s)
    other) more)

ended_lines : (ls : List (List ℕ)) → list_all is_line ls ≡ true → list_all is_line (ended ls) ≡ true
ended_lines [] s = refl
ended_lines (l ∷ []) s = told_cond (λ ls. list_all is_line ls ≡ true) (nat_eq (length l) 0) [] (l ∷ [])
    (λ none. refl) (λ some. s)
ended_lines (l ∷ m ∷ ls) s =
    both (is_line l) (list_all is_line (ended (m ∷ ls))) (first_of_both (is_line l) (list_all is_line (m ∷ ls)) s)
    (ended_lines (m ∷ ls) (second_of_both (is_line l) (list_all is_line (m ∷ ls)) s))

cut_lines : (n : ℕ) (ls : List (List ℕ)) → list_all is_line ls ≡ true → list_all is_line (map (take n) ls) ≡ true
cut_lines n [] s = refl
cut_lines n (l ∷ ls) s =
    both (is_line (take n l)) (list_all is_line (map (take n) ls))
    (list_all-take is_printable n l (first_of_both (is_line l) (list_all is_line ls) s))
    (cut_lines n ls (second_of_both (is_line l) (list_all is_line ls) s))

-- a table's lines
digit_printable : (c : ℕ) → is_ascii_digit c ≡ true → is_printable c ≡ true
digit_printable c s = grind (arith, nat_tests)

digit_line : (ds : List ℕ) → all_ascii_digits ds ≡ true → is_line ds ≡ true
digit_line [] s = refl
digit_line (c ∷ cs) s =
    both (is_printable c) (is_line cs) (digit_printable c (first_of_both (is_ascii_digit c) (all_ascii_digits cs) s))
    (digit_line cs (second_of_both (is_ascii_digit c) (all_ascii_digits cs) s))

pub record IsCell (c : Cell) : Type 0 where
  pub column : c.column < 26
  pub first : 1 ≤ c.row
  pub last : c.row ≤ 99

pub is_cell_told : (c : Cell) → is_cell c ≡ true → IsCell c
is_cell_told c s =
    let front : (nat_lt c.column 26 && nat_le 1 c.row) ≡ true = first_of_both (nat_lt c.column 26 && nat_le 1 c.row)
    (nat_le c.row 99) s in
    record {
      column = lt_told c.column 26 (first_of_both (nat_lt c.column 26) (nat_le 1 c.row) front);
      first = le_told 1 c.row (second_of_both (nat_lt c.column 26) (nat_le 1 c.row) front);
      last = le_told c.row 99 (second_of_both (nat_lt c.column 26 && nat_le 1 c.row) (nat_le c.row 99) s);
    }

cell_line-line : (e : Cell × List ℕ) → is_entry e ≡ true → is_line (cell_line e) ≡ true
cell_line-line e s =
    let c = is_cell_told e.0 (first_of_both (is_cell e.0) (is_cell_text e.1) s) in
    let column : e.0.column < 26 = c.column in
    let row : e.0.row ≤ 99 = c.last in
    let text : list_all is_printable e.1 ≡ true =
    second_of_both (nat_le 1 (length e.1) && nat_le (length e.1) CELL_SIZE) (list_all is_printable e.1)
    (second_of_both (is_cell e.0) (is_cell_text e.1) s) in
    let letter : is_printable (65 + e.0.column) ≡ true = printable_made (65 + e.0.column) (omega arith) (omega arith) in
    list_all-joined is_printable (cell_bytes e.0) (61 ∷ e.1)
    (both (is_printable (65 + e.0.column)) (is_line (decimal e.0.row)) letter
    (digit_line (decimal e.0.row) (digits_decimal numerals e.0.row (omega arith))))
    text

cell_lines : (es : List (Cell × List ℕ)) → list_all is_entry es ≡ true → list_all is_line (map cell_line es) ≡ true
cell_lines [] s = refl
cell_lines (e ∷ es) s =
    both (is_line (cell_line e)) (list_all is_line (map cell_line es))
    (cell_line-line e (first_of_both (is_entry e) (list_all is_entry es) s))
    (cell_lines es (second_of_both (is_entry e) (list_all is_entry es) s))

-- a drawing's lines
abbrev Printable : ℕ → Type 0
Printable c = is_printable c ≡ true

painted-printable : (s : Shape) (column row below : ℕ) → Printable below → Printable (painted s column row below)
painted-printable (box x y w h) column row below p =
    told_cond Printable (is_within x w column && is_within y h row)
    (cond (is_end y h row) (cond (is_end x w column) 43 45) (cond (is_end x w column) 124 below)) below
    (λ inside. told_cond Printable (is_end y h row) (cond (is_end x w column) 43 45)
    (cond (is_end x w column) 124 below)
    (λ edge. told_cond Printable (is_end x w column) 43 45 (λ corner. refl) (λ side. refl))
    (λ between. told_cond Printable (is_end x w column) 124 below (λ side. refl) (λ clear. p)))
    (λ outside. p)
painted-printable (line x y across n) column row below p =
    told_cond Printable (is_within x n column && nat_eq y row) 45 below (λ on. refl) (λ off. p)
painted-printable (line x y down n) column row below p =
    told_cond Printable (nat_eq x column && is_within y n row) 124 below (λ on. refl) (λ off. p)

glyph-printable : (ss : List Shape) (column row below : ℕ) → Printable below
    → Printable (glyph_over ss column row below)
glyph-printable [] column row below p = p
glyph-printable (s ∷ ss) column row below p = glyph-printable ss column row (painted s column row below)
    (painted-printable s column row below p)

-- what a function gives everywhere passes everywhere
all_mapped : {A : Type 0} (p : A → Bool) (f : ℕ → A) → ((n : ℕ) → p (f n) ≡ true) → (ns : List ℕ)
    → list_all p (map f ns) ≡ true
all_mapped p f passes [] = refl
all_mapped p f passes (n ∷ ns) = both (p (f n)) (list_all p (map f ns)) (passes n) (all_mapped p f passes ns)

drawn_line-line : (ss : List Shape) (row : ℕ) → is_line (drawn_line ss row) ≡ true
drawn_line-line ss row = all_mapped is_printable (λ column. glyph ss column row)
    (λ column. glyph-printable ss column row 32 refl) (range_with_len 0 40)

-- each kind
pub picture-lines : (c : Content) → is_content c ≡ true → list_all is_line (picture c) ≡ true
picture-lines (note text) s =
    cut_lines 60 (take 20 (text_lines text))
    (list_all-take is_line 20 (text_lines text)
    (ended_lines (pieces 10 text)
    (piece_lines text (second_of_both (nat_le (length text) NOTE_SIZE) (list_all is_note_text text) s))))
picture-lines (table es) s =
    cell_lines (take 20 es)
    (list_all-take is_entry 20 es (second_of_both (is_rising (map (λ e. cell_place e.0) es))
    (list_all is_entry es) s))
picture-lines (drawing ss) s = all_mapped is_line (drawn_line ss) (drawn_line-line ss) (range_with_len 0 12)

-- the bytes of lines
printable_byte : (a b : Bool) → a ≡ true → (b || a) ≡ true
printable_byte a true s = refl
printable_byte a false s = s

line_bytes : (l : List ℕ) → is_line l ≡ true → list_all is_line_byte l ≡ true
line_bytes [] s = refl
line_bytes (c ∷ cs) s =
    both (is_line_byte c) (list_all is_line_byte cs)
    (printable_byte (is_printable c) (nat_eq c 10) (first_of_both (is_printable c) (is_line cs) s))
    (line_bytes cs (second_of_both (is_printable c) (is_line cs) s))

lines_bytes : (ls : List (List ℕ)) → list_all is_line ls ≡ true → list_all is_line_byte (flat_map ended_line ls) ≡ true
lines_bytes [] s = refl
lines_bytes (l ∷ ls) s =
    list_all-joined is_line_byte (l ++ 10 ∷ []) (flat_map ended_line ls)
    (list_all-joined is_line_byte l (10 ∷ []) (line_bytes l (first_of_both (is_line l) (list_all is_line ls) s)) refl)
    (lines_bytes ls (second_of_both (is_line l) (list_all is_line ls) s))

-- the last byte of lines
record Closed (bytes : List ℕ) : Type 0 where
  front : List ℕ
  closed : bytes ≡ front ++ 10 ∷ []

lines_closed : (l : List ℕ) (ls : List (List ℕ)) → Closed (flat_map ended_line (l ∷ ls))
lines_closed l [] = record { front = l; closed = append_assoc l (10 ∷ []) [] }
lines_closed l (m ∷ ms) =
    let rest = lines_closed m ms in
    record {
      front = (l ++ 10 ∷ []) ++ rest.front;
      closed = ap (λ bytes. (l ++ 10 ∷ []) ++ bytes) rest.closed
          ∙ sym (append_assoc (l ++ 10 ∷ []) rest.front (10 ∷ []));
    }

abbrev IsEnded : List ℕ → Type 0
IsEnded bytes = (nat_eq (length bytes) 0 || nat_eq (get_or bytes (length bytes - 1) 0) 10) ≡ true

either : (a b : Bool) → b ≡ true → (a || b) ≡ true
either true b s = refl
either false b s = s

closed_ended : (front : List ℕ) → IsEnded (front ++ 10 ∷ [])
closed_ended front =
    let bytes : List ℕ = front ++ 10 ∷ [] in
    let place : length bytes - 1 ≡ length front = simp length-append (omega arith) in
    either (nat_eq (length bytes) 0) (nat_eq (get_or bytes (length bytes - 1) 0) 10)
    (ap (λ n. nat_eq (get_or bytes n 0) 10) place ∙ ap (λ c. nat_eq c 10) (at-end front [] 10))

lines_ended : (ls : List (List ℕ)) → IsEnded (flat_map ended_line ls)
lines_ended [] = refl
lines_ended (l ∷ ls) = let c = lines_closed l ls in subst IsEnded (sym c.closed) (closed_ended c.front)

both_lines : (bytes : List ℕ) → list_all is_line_byte bytes ≡ true → IsEnded bytes → are_lines bytes ≡ true
unfolding are_lines
both_lines bytes s e = both (list_all is_line_byte bytes) _ s e

-- what a picture is drawn as are lines
pub picture_bytes-lines : (c : Content) → is_content c ≡ true → are_lines (picture_bytes c) ≡ true
picture_bytes-lines c s = both_lines (picture_bytes c) (lines_bytes (picture c) (picture-lines c s))
    (lines_ended (picture c))
