-- What is stored of a content is within the limits.
use Rattle.std.proofs.Common.{◌≡◌, ◌≤◌, ◌<◌, ◌+◌, ◌*◌, ◌&&◌, ℕ, Bool, true, false, cond, not, suc, List, [], ◌∷◌}
use Rattle.std.proofs.Common.{length, map, take, refl, ap, ◌∙◌, arith, nat_le, nat_lt, length-append, length-take, ◌≢◌}
use Rattle.std.proofs.Common.{Some, None}
use Rattle.std.proofs.Math.Nat.{suc-mul}
use Rattle.std.specs.List.{list_all, flat_map}
use Rattle.std.specs.Fmt.{decimal}
use Rattle.std.proofs.lemmas.Fmt.{length-decimal-le}
use Rattle.object_state.specs.Printable.{is_printable}
use Rattle.tree_streams.specs.Limits.{MOST_BYTES, has_ole_name, total}
use Rattle.object_core.specs.Content.{Cell, Shape, box, line, Content, note, table, drawing, is_content, is_cell}
use Rattle.object_core.specs.Content.{is_cell_text, is_entry, is_rising, is_shape, cell_place, entry_bytes, shape_line}
use Rattle.object_core.specs.Content.{stream_bytes, stored, CELL_SIZE, DRAWING_SIZE}
use Rattle.object_core.specs.Pictures.{text_lines, cell_line, picture, ended_line, picture_bytes}
use Rattle.text_words.proofs.Passing.{both, first_of_both, second_of_both, le_told, lt_told, le_passes, lt_passes}
use Rattle.object_core.proofs.Staying.{places, note-size, drawing-size, list_all-take}
use Rattle.ole_model.specs.Presentations.{presentation_bytes, lines_written, are_lines, PAST_DATA, presentation}
use Rattle.server_model.specs.Pictures.{presented, picture_of}
use Rattle.ole_model.specs.declared.presentation.Presentation.TheVariants.{Text}
use Rattle.ole_model.proofs.Again.{lines_again}
use Rattle.server_model.specs.Stored.{StoredIsWithin, PicturesAreRead}
use Rattle.server_model.proofs.PictureLines.{IsCell, is_cell_told, picture_bytes-lines}

-- what is joined of parts of at most so many bytes
joined_size : {A : Type 0} (f : A → List ℕ) (p : A → Bool) (k : ℕ) → ((a : A) → p a ≡ true → length (f a) ≤ k)
    → (xs : List A) → list_all p xs ≡ true
    → length (flat_map f xs) ≤ length xs * k
joined_size f p k bound [] s = omega arith
joined_size f p k bound (x ∷ xs) s =
    let first : length (f x) ≤ k = bound x (first_of_both (p x) (list_all p xs) s) in
    let more : length (flat_map f xs) ≤ length xs * k = joined_size f p k bound xs
    (second_of_both (p x) (list_all p xs) s) in
    let product : suc (length xs) * k ≡ length xs * k + k = suc-mul (length xs) k in
    simp length-append (omega (arith, product))

-- a table's cells are few, since their places rise
entry_cell : (e : Cell × List ℕ) → is_entry e ≡ true → IsCell e.0
entry_cell e s = is_cell_told e.0 (first_of_both (is_cell e.0) (is_cell_text e.1) s)

place_small : (c : Cell) → IsCell c → cell_place c ≤ 2599
place_small c h = let row : c.row ≤ 99 = h.last in let column : c.column < 26 = h.column in omega arith

place_large : (c : Cell) → IsCell c → 26 ≤ cell_place c
place_large c h = let row : 1 ≤ c.row = h.first in omega arith

behind_few : (e : Cell × List ℕ) (es : List (Cell × List ℕ)) → is_rising (places (e ∷ es)) ≡ true
    → list_all is_entry (e ∷ es) ≡ true
    → length es + cell_place e.0 ≤ 2599
behind_few e [] r s = let last : cell_place e.0 ≤ 2599 =
    place_small e.0 (entry_cell e (first_of_both (is_entry e) true s)) in omega arith
behind_few e (d ∷ es) r s =
    let less : cell_place e.0 < cell_place d.0 = lt_told (cell_place e.0) (cell_place d.0)
    (first_of_both (nat_lt (cell_place e.0) (cell_place d.0)) (is_rising (places (d ∷ es))) r) in
    let more : length es + cell_place d.0 ≤ 2599 =
    behind_few d es (second_of_both (nat_lt (cell_place e.0) (cell_place d.0)) (is_rising (places (d ∷ es))) r)
    (second_of_both (is_entry e) (list_all is_entry (d ∷ es)) s) in
    omega arith

cells_few : (es : List (Cell × List ℕ)) → is_rising (places es) ≡ true → list_all is_entry es ≡ true → length es ≤ 2574
cells_few [] r s = omega arith
cells_few (e ∷ es) r s =
    let more : length es + cell_place e.0 ≤ 2599 = behind_few e es r s in
    let large : 26 ≤ cell_place e.0 =
    place_large e.0 (entry_cell e (first_of_both (is_entry e) (list_all is_entry es) s)) in
    omega arith

-- the sizes of a table's lines
text_size : (e : Cell × List ℕ) → is_entry e ≡ true → length e.1 ≤ 40
text_size e s =
    let text = second_of_both (is_cell e.0) (is_cell_text e.1) s in
    le_told (length e.1) 40 (second_of_both (nat_le 1 (length e.1)) (nat_le (length e.1) CELL_SIZE)
    (first_of_both (nat_le 1 (length e.1) && nat_le (length e.1) CELL_SIZE) (list_all is_printable e.1) text))

row_size : (e : Cell × List ℕ) → is_entry e ≡ true → length (decimal e.0.row) ≤ 2
row_size e s = let c = entry_cell e s in let row : e.0.row ≤ 99 = c.last in
    length-decimal-le 2 e.0.row (omega arith) (omega arith) (omega arith)

entry_size : (e : Cell × List ℕ) → is_entry e ≡ true → length (entry_bytes e) ≤ 45
entry_size e s =
    let text : length e.1 ≤ 40 = text_size e s in
    let row : length (decimal e.0.row) ≤ 2 = row_size e s in
    simp length-append (omega arith)

cell_line-size : (e : Cell × List ℕ) → is_entry e ≡ true → length (ended_line (cell_line e)) ≤ 45
cell_line-size e s =
    let text : length e.1 ≤ 40 = text_size e s in
    let row : length (decimal e.0.row) ≤ 2 = row_size e s in
    simp length-append (omega arith)

-- the sizes of a drawing's lines
small : (n : ℕ) → n ≤ 100 → length (decimal n) ≤ 3
small n h = length-decimal-le 3 n (omega arith) (omega arith) (omega arith)

shape_size : (s : Shape) → is_shape s ≡ true → length (shape_line s) ≤ 18
shape_size (box x y w h) s =
    let at_h = first_of_both (nat_le x 99 && nat_le y 99 && nat_le 1 w && nat_le w 100 && nat_le 1 h) (nat_le h 100)
    s in
    let to_h = le_told h 100
    (second_of_both (nat_le x 99 && nat_le y 99 && nat_le 1 w && nat_le w 100 && nat_le 1 h) (nat_le h 100)
    s) in
    let at_w = first_of_both (nat_le x 99 && nat_le y 99 && nat_le 1 w && nat_le w 100) (nat_le 1 h) at_h in
    let to_w = le_told w 100 (second_of_both (nat_le x 99 && nat_le y 99 && nat_le 1 w) (nat_le w 100) at_w) in
    let at = first_of_both (nat_le x 99 && nat_le y 99) (nat_le 1 w)
    (first_of_both (nat_le x 99 && nat_le y 99 && nat_le 1 w) (nat_le w 100) at_w) in
    let to_x = le_told x 99 (first_of_both (nat_le x 99) (nat_le y 99) at) in
    let to_y = le_told y 99 (second_of_both (nat_le x 99) (nat_le y 99) at) in
    let dx : length (decimal x) ≤ 3 = small x (omega (arith, to_x)) in
    let dy : length (decimal y) ≤ 3 = small y (omega (arith, to_y)) in
    let dw : length (decimal w) ≤ 3 = small w to_w in
    let dh : length (decimal h) ≤ 3 = small h to_h in
    simp length-append (omega arith)
shape_size (line x y d n) s =
    let to_n = le_told n 100 (second_of_both (nat_le x 99 && nat_le y 99 && nat_le 1 n) (nat_le n 100) s) in
    let at = first_of_both (nat_le x 99 && nat_le y 99) (nat_le 1 n)
    (first_of_both (nat_le x 99 && nat_le y 99 && nat_le 1 n) (nat_le n 100) s) in
    let to_x = le_told x 99 (first_of_both (nat_le x 99) (nat_le y 99) at) in
    let to_y = le_told y 99 (second_of_both (nat_le x 99) (nat_le y 99) at) in
    let dx : length (decimal x) ≤ 3 = small x (omega (arith, to_x)) in
    let dy : length (decimal y) ≤ 3 = small y (omega (arith, to_y)) in
    let dn : length (decimal n) ≤ 3 = small n to_n in
    simp length-append (omega arith)

-- what is stored in a stream
pub bytes_size : (c : Content) → is_content c ≡ true → length (stream_bytes c) ≤ 115830
bytes_size (note text) s = let h = note-size text s in omega (arith, h)
bytes_size (table es) s =
    let entries = second_of_both (is_rising (places es)) (list_all is_entry es) s in
    let few : length es ≤ 2574 = cells_few es (first_of_both (is_rising (places es)) (list_all is_entry es) s)
    entries in
    let all : length (flat_map entry_bytes es) ≤ length es * 45 =
    joined_size entry_bytes is_entry 45 entry_size es entries in
    omega arith
bytes_size (drawing ss) s =
    let few : length ss ≤ 256 = drawing-size ss s in
    let shapes = second_of_both (nat_le (length ss) DRAWING_SIZE) (list_all is_shape ss) s in
    let all : length (flat_map shape_line ss) ≤ length ss * 18 = joined_size shape_line is_shape 18 shape_size ss
    shapes in
    omega arith

-- what is drawn
mapped_size : {A : Type 0} (f : A → List ℕ) (p : A → Bool) (k : ℕ)
    → ((a : A) → p a ≡ true → length (ended_line (f a)) ≤ k) → (xs : List A) → list_all p xs ≡ true
    → length (flat_map ended_line (map f xs)) ≤ length xs * k
mapped_size f p k bound [] s = omega arith
mapped_size f p k bound (x ∷ xs) s =
    let first : length (ended_line (f x)) ≤ k = bound x (first_of_both (p x) (list_all p xs) s) in
    let more : length (flat_map ended_line (map f xs)) ≤ length xs * k =
    mapped_size f p k bound xs (second_of_both (p x) (list_all p xs) s) in
    let whole = length-append (ended_line (f x)) (flat_map ended_line (map f xs)) in
    let product : suc (length xs) * k ≡ length xs * k + k = suc-mul (length xs) k in
    omega (arith, whole, product)

all_pass : {A : Type 0} (xs : List A) → list_all (λ x. true) xs ≡ true
all_pass [] = refl
all_pass (x ∷ xs) = all_pass xs

cut_size : (l : List ℕ) → true ≡ true → length (ended_line (take 60 l)) ≤ 61
cut_size l s = simp (length-append, length-take) (omega arith)

pub picture-size : (c : Content) → is_content c ≡ true → length (picture_bytes c) ≤ 1220
picture-size (note text) s =
    let ls = take 20 (text_lines text) in
    let few : length ls ≤ 20 = simp length-take (omega arith) in
    let all : length (flat_map ended_line (map (take 60) ls)) ≤ length ls * 61 =
    mapped_size (take 60) (λ l. true) 61 cut_size ls (all_pass ls) in
    omega arith
picture-size (table es) s =
    let some = take 20 es in
    let few : length some ≤ 20 = simp length-take (omega arith) in
    let entries = list_all-take is_entry 20 es (second_of_both (is_rising (places es)) (list_all is_entry es) s) in
    let all : length (flat_map ended_line (map cell_line some)) ≤ length some * 45 =
    mapped_size cell_line is_entry 45 cell_line-size some entries in
    omega arith
picture-size (drawing ss) s =
    let all : length (picture_bytes (drawing ss)) ≡ 492 = refl in
    omega (arith, all)

presented-size : (lines : List ℕ) → length (presented lines) ≤ length lines + 48
presented-size [] = omega arith
presented-size (c ∷ cs) = simp length-append (omega arith)

stored_picture-size : (c : Content) → is_content c ≡ true → length (picture_of c) ≤ 1268
unfolding picture_of
stored_picture-size c s =
    let drawn : length (picture_bytes c) ≤ 1220 = picture-size c s in
    let more : length (presented (picture_bytes c)) ≤ length (picture_bytes c) + 48 =
    presented-size (picture_bytes c) in
    omega arith

own_name : (c : Content) → has_ole_name (stored c) ≡ false
own_name (note text) = refl
own_name (table es) = refl
own_name (drawing ss) = refl

pub stored-within : StoredIsWithin
stored-within c s =
    let stream : length (stream_bytes c) ≤ 115830 = bytes_size c s in
    let drawn : length (picture_of c) ≤ 1268 = stored_picture-size c s in
    let fits : total (stored c) + length (picture_of c) ≤ MOST_BYTES = omega arith in
    both (nat_le (total (stored c) + length (picture_of c)) MOST_BYTES) (not (has_ole_name (stored c)))
    (le_passes (total (stored c) + length (picture_of c)) MOST_BYTES fits) (ap not (own_name c))

-- the lines of a picture can be written
pub picture-written : (c : Content) → is_content c ≡ true → lines_written (picture_bytes c)
    ≡ Some (presentation_bytes (picture_bytes c))
picture-written c s =
    let lines : are_lines (picture_bytes c) ≡ true = picture_bytes-lines c s in
    let small : length (picture_bytes c) ≤ 1220 = picture-size c s in
    let fits : nat_lt (length (picture_bytes c)) PAST_DATA ≡ true =
    lt_passes (length (picture_bytes c)) PAST_DATA (omega arith) in
    ap (λ b. cond b (Some (presentation_bytes (picture_bytes c))) None)
    (both (are_lines (picture_bytes c)) (nat_lt (length (picture_bytes c)) PAST_DATA) lines fits)

presented-read : (lines : List ℕ) → lines ≢ [] → lines_written lines ≡ Some (presentation_bytes lines)
    → presentation (presented lines) ≡ Text lines
presented-read [] some w = absurd (some refl)
presented-read (c ∷ cs) some w = lines_again (c ∷ cs) (presentation_bytes (c ∷ cs)) w

pub pictures-read : PicturesAreRead
unfolding picture_of
pictures-read c s some = presented-read (picture_bytes c) some (picture-written c s)

-- what a box needs to know of its lines
pub lines-fit : (c : Content) (lines : List ℕ) → is_content c ≡ true → lines ≡ picture_bytes c
    → (are_lines lines ≡ true) × (length lines < PAST_DATA)
lines-fit c lines s e =
    let small : length (picture_bytes c) ≤ 1220 = picture-size c s in
    (ap are_lines e ∙ picture_bytes-lines c s, omega (arith, small, ap length e))

pub drawn-picture : (c : Content) (lines picture : List ℕ) → lines ≡ picture_bytes c → picture ≡ presented lines
    → picture ≡ picture_of c
unfolding picture_of
drawn-picture c lines picture e p = p ∙ ap presented e
