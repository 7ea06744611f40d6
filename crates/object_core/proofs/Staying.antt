-- Edits leave contents within their characters, ranges and sizes.
use Rattle.std.proofs.Common.{◌≡◌, ◌≤◌, ◌<◌, ◌+◌, ◌-◌, ◌&&◌, ℕ, Bool, true, false, cond, List, [], ◌∷◌, ◌++◌, zero, suc}
use Rattle.std.proofs.Common.{length, map, take, drop, refl, ap, sym, ◌∙◌, arith, nat_le, nat_lt, nat_eq, length-append}
use Rattle.std.proofs.Common.{length-drop, length-take}
use Rattle.std.specs.Prelude.{Ok, Option, Some, None, filter, not}
use Rattle.object_core.specs.Objects.{EditsStay, edit_told}
use Rattle.object_core.specs.Reading.{edit_of}
use Rattle.std.specs.List.{list_all, list_any}
use Rattle.std.proofs.lemmas.List.Folds.{list_all-append}
use Rattle.object_core.specs.Content.{Cell, Shape, Content, note, table, drawing, is_content, is_note_text, is_cell}
use Rattle.object_core.specs.Content.{is_cell_text, is_entry, is_rising, is_shape, cell_place, NOTE_SIZE, CELL_SIZE}
use Rattle.object_core.specs.Content.{DRAWING_SIZE}
use Rattle.object_state.specs.Printable.{is_printable}
use Rattle.object_core.specs.Edits.{Edit, insert, delete, set, clear, add, remove, raise, edited, within, with_cell}
use Rattle.object_core.specs.Edits.{without_cell, is_at}
use Rattle.object_core.specs.Kinds.{kind_of}
use Rattle.text_words.proofs.Passing.{both, first_of_both, second_of_both, told_cond, lt_passes, lt_told, le_told_false}
use Rattle.text_words.proofs.Passing.{eq_told, ne_told, le_passes, le_told}

pub list_all-take : {A : Type 0} (p : A → Bool) (n : ℕ) (xs : List A) → list_all p xs ≡ true
    → list_all p (take n xs) ≡ true
list_all-take p zero xs s = refl
list_all-take p (suc n) [] s = refl
list_all-take p (suc n) (x ∷ xs) s =
    both (p x) (list_all p (take n xs)) (first_of_both (p x) (list_all p xs) s)
    (list_all-take p n xs (second_of_both (p x) (list_all p xs) s))

pub list_all-drop : {A : Type 0} (p : A → Bool) (n : ℕ) (xs : List A) → list_all p xs ≡ true
    → list_all p (drop n xs) ≡ true
list_all-drop p zero xs s = s
list_all-drop p (suc n) [] s = refl
list_all-drop p (suc n) (x ∷ xs) s = list_all-drop p n xs (second_of_both (p x) (list_all p xs) s)

pub list_all-joined : {A : Type 0} (p : A → Bool) (xs ys : List A) → list_all p xs ≡ true → list_all p ys ≡ true
    → list_all p (xs ++ ys) ≡ true
list_all-joined p xs ys s t = list_all-append p xs ys ∙ both (list_all p xs) (list_all p ys) s t

note-made : (t : List ℕ) → length t ≤ NOTE_SIZE → list_all is_note_text t ≡ true → is_content (note t) ≡ true
note-made t h s = both (nat_le (length t) NOTE_SIZE) (list_all is_note_text t) (le_passes (length t) NOTE_SIZE h) s

pub note-size : (t : List ℕ) → is_content (note t) ≡ true → length t ≤ NOTE_SIZE
note-size t s = le_told (length t) NOTE_SIZE (first_of_both (nat_le (length t) NOTE_SIZE) (list_all is_note_text t) s)

note-text : (t : List ℕ) → is_content (note t) ≡ true → list_all is_note_text t ≡ true
note-text t s = second_of_both (nat_le (length t) NOTE_SIZE) (list_all is_note_text t) s

-- a note stays one by an insertion
pub note-insert : (p : ℕ) (text t : List ℕ) → list_all is_note_text text ≡ true → length t + length text ≤ NOTE_SIZE
    → is_content (note t) ≡ true
    → is_content (note (take p t ++ text ++ drop p t)) ≡ true
note-insert p text t given fits was =
    let s = note-text t was in
    note-made (take p t ++ text ++ drop p t)
    (simp (length-append, length-take, length-drop) (omega arith))
    (list_all-joined is_note_text (take p t ++ text) (drop p t)
    (list_all-joined is_note_text (take p t) text (list_all-take is_note_text p t s) given)
    (list_all-drop is_note_text p t s))

-- and by a deletion
pub note-delete : (p n : ℕ) (t : List ℕ) → is_content (note t) ≡ true
    → is_content (note (take p t ++ drop (p + n) t)) ≡ true
note-delete p n t was =
    let s = note-text t was in
    let h = note-size t was in
    note-made (take p t ++ drop (p + n) t)
    (simp (length-append, length-take, length-drop) (omega arith))
    (list_all-joined is_note_text (take p t) (drop (p + n) t) (list_all-take is_note_text p t s)
    (list_all-drop is_note_text (p + n) t s))

-- the places of a table's cells
abbrev pub places : List (Cell × List ℕ) → List ℕ
places es = map (λ e. cell_place e.0) es

rising-put : (n : ℕ) (ns : List ℕ) (m : ℕ) → n < m → is_rising (m ∷ ns) ≡ true → is_rising (n ∷ m ∷ ns) ≡ true
rising-put n ns m h r = both (nat_lt n m) (is_rising (m ∷ ns)) (lt_passes n m h) r

rising-first : (n m : ℕ) (ns : List ℕ) → is_rising (n ∷ m ∷ ns) ≡ true → n < m
rising-first n m ns r = lt_told n m (first_of_both (nat_lt n m) (is_rising (m ∷ ns)) r)

rising-second : (n m : ℕ) (ns : List ℕ) → is_rising (n ∷ m ∷ ns) ≡ true → is_rising (m ∷ ns) ≡ true
rising-second n m ns r = second_of_both (nat_lt n m) (is_rising (m ∷ ns)) r

rising-rest : (n : ℕ) (ns : List ℕ) → is_rising (n ∷ ns) ≡ true → is_rising ns ≡ true
rising-rest n [] r = refl
rising-rest n (m ∷ ns) r = rising-second n m ns r

-- without the second one
rising-over : (n m : ℕ) (ns : List ℕ) → is_rising (n ∷ m ∷ ns) ≡ true → is_rising (n ∷ ns) ≡ true
rising-over n m [] r = refl
rising-over n m (k ∷ ns) r =
    let s : is_rising (m ∷ k ∷ ns) ≡ true = rising-second n m (k ∷ ns) r in
    let a : n < m = rising-first n m (k ∷ ns) r in
    let b : m < k = rising-first m k ns s in
    rising-put n ns k (omega arith) (rising-second m k ns s)

-- a cell that is set behind a place stands behind it
rising_with : (c : Cell) (text : List ℕ) (n : ℕ) (es : List (Cell × List ℕ)) → n < cell_place c
    → is_rising (n ∷ places es) ≡ true
    → is_rising (n ∷ places (with_cell c text es)) ≡ true
rising_with c text n [] h r = rising-put n [] (cell_place c) h refl
rising_with c text n (e ∷ es) h r =
    let rest : is_rising (cell_place e.0 ∷ places es) ≡ true = rising-second n (cell_place e.0) (places es) r in
    let P : List (Cell × List ℕ) → Type 0 = λ found. is_rising (n ∷ places found) ≡ true in
    told_cond P (nat_lt (cell_place c) (cell_place e.0)) ((c, text) ∷ e ∷ es)
    (cond (nat_eq (cell_place c) (cell_place e.0)) ((c, text) ∷ es) (e ∷ with_cell c text es))
    (λ less. rising-put n (places (e ∷ es)) (cell_place c) h
    (rising-put (cell_place c) (places es) (cell_place e.0) (lt_told (cell_place c) (cell_place e.0) less)
    rest))
    (λ more. told_cond P (nat_eq (cell_place c) (cell_place e.0)) ((c, text) ∷ es) (e ∷ with_cell c text es)
    (λ same. rising-put n (places es) (cell_place c) h
    (ap (λ m. is_rising (m ∷ places es)) (eq_told (cell_place c) (cell_place e.0) same) ∙ rest))
    (λ other.
    let le : cell_place e.0 ≤ cell_place c = le_told_false (cell_place c) (cell_place e.0) more in
    let ne : (cell_place c ≡ cell_place e.0 → ⊥) = ne_told (cell_place c) (cell_place e.0) other in
    rising-put n (places (with_cell c text es)) (cell_place e.0) (rising-first n (cell_place e.0) (places es) r)
    (rising_with c text (cell_place e.0) es (omega arith) rest)))

rising_set : (c : Cell) (text : List ℕ) (es : List (Cell × List ℕ)) → is_rising (places es) ≡ true
    → is_rising (places (with_cell c text es)) ≡ true
rising_set c text [] r = refl
rising_set c text (e ∷ es) r =
    let P : List (Cell × List ℕ) → Type 0 = λ found. is_rising (places found) ≡ true in
    told_cond P (nat_lt (cell_place c) (cell_place e.0)) ((c, text) ∷ e ∷ es)
    (cond (nat_eq (cell_place c) (cell_place e.0)) ((c, text) ∷ es) (e ∷ with_cell c text es))
    (λ less. rising-put (cell_place c) (places es) (cell_place e.0) (lt_told (cell_place c) (cell_place e.0) less) r)
    (λ more. told_cond P (nat_eq (cell_place c) (cell_place e.0)) ((c, text) ∷ es) (e ∷ with_cell c text es)
    (λ same. ap (λ m. is_rising (m ∷ places es)) (eq_told (cell_place c) (cell_place e.0) same) ∙ r)
    (λ other.
    let le : cell_place e.0 ≤ cell_place c = le_told_false (cell_place c) (cell_place e.0) more in
    let ne : (cell_place c ≡ cell_place e.0 → ⊥) = ne_told (cell_place c) (cell_place e.0) other in
    rising_with c text (cell_place e.0) es (omega arith) r))

-- entries that are left out leave the others in order
rising_behind : (p : Cell × List ℕ → Bool) (n : ℕ) (es : List (Cell × List ℕ)) → is_rising (n ∷ places es) ≡ true
    → is_rising (n ∷ places (filter p es)) ≡ true
rising_behind p n [] r = refl
rising_behind p n (e ∷ es) r =
    let P : List (Cell × List ℕ) → Type 0 = λ left. is_rising (n ∷ places left) ≡ true in
    told_cond P (p e) (e ∷ filter p es) (filter p es)
    (λ stays. rising-put n (places (filter p es)) (cell_place e.0) (rising-first n (cell_place e.0) (places es) r)
    (rising_behind p (cell_place e.0) es (rising-second n (cell_place e.0) (places es) r)))
    (λ goes. rising_behind p n es (rising-over n (cell_place e.0) (places es) r))

rising_left : (p : Cell × List ℕ → Bool) (es : List (Cell × List ℕ)) → is_rising (places es) ≡ true
    → is_rising (places (filter p es)) ≡ true
rising_left p [] r = refl
rising_left p (e ∷ es) r =
    let P : List (Cell × List ℕ) → Type 0 = λ left. is_rising (places left) ≡ true in
    told_cond P (p e) (e ∷ filter p es) (filter p es)
    (λ stays. rising_behind p (cell_place e.0) es r)
    (λ goes. rising_left p es (rising-rest (cell_place e.0) (places es) r))

list_all-filter : {A : Type 0} (q p : A → Bool) (xs : List A) → list_all q xs ≡ true → list_all q (filter p xs) ≡ true
list_all-filter q p [] s = refl
list_all-filter q p (x ∷ xs) s =
    let more = list_all-filter q p xs (second_of_both (q x) (list_all q xs) s) in
    told_cond (λ left. list_all q left ≡ true) (p x) (x ∷ filter p xs) (filter p xs)
    (λ stays. both (q x) (list_all q (filter p xs)) (first_of_both (q x) (list_all q xs) s) more)
    (λ goes. more)

entries_with : (c : Cell) (text : List ℕ) (es : List (Cell × List ℕ)) → is_entry (c, text) ≡ true
    → list_all is_entry es ≡ true
    → list_all is_entry (with_cell c text es) ≡ true
entries_with c text [] given s = both (is_entry (c, text)) true given refl
entries_with c text (e ∷ es) given s =
    let P : List (Cell × List ℕ) → Type 0 = λ found. list_all is_entry found ≡ true in
    let rest = second_of_both (is_entry e) (list_all is_entry es) s in
    told_cond P (nat_lt (cell_place c) (cell_place e.0)) ((c, text) ∷ e ∷ es)
    (cond (nat_eq (cell_place c) (cell_place e.0)) ((c, text) ∷ es) (e ∷ with_cell c text es))
    (λ less. both (is_entry (c, text)) (list_all is_entry (e ∷ es)) given s)
    (λ more. told_cond P (nat_eq (cell_place c) (cell_place e.0)) ((c, text) ∷ es) (e ∷ with_cell c text es)
    (λ same. both (is_entry (c, text)) (list_all is_entry es) given rest)
    (λ other. both (is_entry e) (list_all is_entry (with_cell c text es))
    (first_of_both (is_entry e) (list_all is_entry es) s) (entries_with c text es given rest)))

-- a table stays one where a cell is set
pub table-set : (c : Cell) (text : List ℕ) (es : List (Cell × List ℕ)) → is_entry (c, text) ≡ true
    → is_content (table es) ≡ true
    → is_content (table (with_cell c text es)) ≡ true
table-set c text es given was =
    both (is_rising (places (with_cell c text es))) (list_all is_entry (with_cell c text es))
    (rising_set c text es (first_of_both (is_rising (places es)) (list_all is_entry es) was))
    (entries_with c text es given (second_of_both (is_rising (places es)) (list_all is_entry es) was))

-- and where one is cleared
pub table-clear : (c : Cell) (es : List (Cell × List ℕ)) → is_content (table es) ≡ true
    → is_content (table (without_cell c es)) ≡ true
table-clear c es was =
    both (is_rising (places (without_cell c es))) (list_all is_entry (without_cell c es))
    (rising_left (λ e. not (is_at c e)) es (first_of_both (is_rising (places es)) (list_all is_entry es) was))
    (list_all-filter is_entry (λ e. not (is_at c e)) es
    (second_of_both (is_rising (places es)) (list_all is_entry es) was))

drawing-made : (ss : List Shape) → length ss ≤ DRAWING_SIZE → list_all is_shape ss ≡ true
    → is_content (drawing ss) ≡ true
drawing-made ss h s = both (nat_le (length ss) DRAWING_SIZE) (list_all is_shape ss)
    (le_passes (length ss) DRAWING_SIZE h) s

pub drawing-size : (ss : List Shape) → is_content (drawing ss) ≡ true → length ss ≤ DRAWING_SIZE
drawing-size ss s = le_told (length ss) DRAWING_SIZE
    (first_of_both (nat_le (length ss) DRAWING_SIZE) (list_all is_shape ss) s)

drawing-shapes : (ss : List Shape) → is_content (drawing ss) ≡ true → list_all is_shape ss ≡ true
drawing-shapes ss s = second_of_both (nat_le (length ss) DRAWING_SIZE) (list_all is_shape ss) s

-- a drawing stays one by another shape
pub drawing-add : (s : Shape) (ss : List Shape) → is_shape s ≡ true → length ss < DRAWING_SIZE
    → is_content (drawing ss) ≡ true
    → is_content (drawing (ss ++ s ∷ [])) ≡ true
drawing-add s ss given fits was =
    drawing-made (ss ++ s ∷ []) (simp length-append (omega arith))
    (list_all-joined is_shape ss (s ∷ []) (drawing-shapes ss was) (both (is_shape s) true given refl))

-- by one less
pub drawing-remove : (i : ℕ) (ss : List Shape) → 1 ≤ i → is_content (drawing ss) ≡ true
    → is_content (drawing (take (i - 1) ss ++ drop i ss)) ≡ true
drawing-remove i ss some was =
    let s = drawing-shapes ss was in
    let h = drawing-size ss was in
    drawing-made (take (i - 1) ss ++ drop i ss) (simp (length-append, length-take, length-drop) (omega arith))
    (list_all-joined is_shape (take (i - 1) ss) (drop i ss) (list_all-take is_shape (i - 1) ss s)
    (list_all-drop is_shape i ss s))

-- and where one is moved to the end
pub drawing-raise : (i : ℕ) (ss : List Shape) → 1 ≤ i → is_content (drawing ss) ≡ true
    → is_content (drawing (take (i - 1) ss ++ drop i ss ++ take 1 (drop (i - 1) ss))) ≡ true
drawing-raise i ss some was =
    let s = drawing-shapes ss was in
    let h = drawing-size ss was in
    drawing-made (take (i - 1) ss ++ drop i ss ++ take 1 (drop (i - 1) ss))
    (simp (length-append, length-take, length-drop) (omega arith))
    (list_all-joined is_shape (take (i - 1) ss ++ drop i ss) (take 1 (drop (i - 1) ss))
    (list_all-joined is_shape (take (i - 1) ss) (drop i ss) (list_all-take is_shape (i - 1) ss s)
    (list_all-drop is_shape i ss s))
    (list_all-take is_shape 1 (drop (i - 1) ss) (list_all-drop is_shape (i - 1) ss s)))

pub record Went (asked fits : Bool) (c d : Content) : Type 0 where
  pub was_asked : asked ≡ true
  pub did_fit : fits ≡ true
  pub became : c ≡ d

went : (asked fits : Bool) (c d : Content) → within asked fits c ≡ Ok d → Went asked fits c d
went true true c d h = record { was_asked = refl; did_fit = refl; became = cc }
went true false c d h = cc
went false fits c d h = cc

abbrev pub Stays : Content → Content → Type 0
Stays c d = (kind_of d ≡ kind_of c) × (is_content d ≡ true)

stays_as : (c made d : Content) → made ≡ d → kind_of made ≡ kind_of c → is_content made ≡ true → Stays c d
stays_as c made d e k h = (sym (ap kind_of e) ∙ k, sym (ap is_content e) ∙ h)

insert_stays : (p : ℕ) (text t : List ℕ) (d : Content) → edited (insert p text) (note t) ≡ Ok d
    → is_content (note t) ≡ true → Stays (note t) d
insert_stays p text t d h was =
    let w = went (nat_le 1 (length text) && list_all is_note_text text && nat_le p (length t))
    (nat_le (length t + length text) NOTE_SIZE)
    (note (take p t ++ text ++ drop p t)) d h in
    let given : list_all is_note_text text ≡ true = second_of_both (nat_le 1 (length text)) (list_all is_note_text text)
    (first_of_both (nat_le 1 (length text) && list_all is_note_text text) (nat_le p (length t)) w.was_asked) in
    stays_as (note t) (note (take p t ++ text ++ drop p t)) d w.became refl
    (note-insert p text t given (le_told (length t + length text) NOTE_SIZE w.did_fit) was)

delete_stays : (p n : ℕ) (t : List ℕ) (d : Content) → edited (delete p n) (note t) ≡ Ok d
    → is_content (note t) ≡ true → Stays (note t) d
delete_stays p n t d h was =
    let w = went (nat_le 1 n && nat_le (p + n) (length t)) true (note (take p t ++ drop (p + n) t)) d h in
    stays_as (note t) (note (take p t ++ drop (p + n) t)) d w.became refl (note-delete p n t was)

set_stays : (c : Cell) (text : List ℕ) (es : List (Cell × List ℕ)) (d : Content)
    → edited (set c text) (table es) ≡ Ok d → is_content (table es) ≡ true
    → Stays (table es) d
set_stays c text es d h was =
    let some = nat_le 1 (length text) in
    let w = went (is_cell c && some && list_all is_printable text) (nat_le (length text) CELL_SIZE)
    (table (with_cell c text es)) d h in
    let front : (is_cell c && some) ≡ true = first_of_both (is_cell c && some) (list_all is_printable text)
    w.was_asked in
    let entry : is_entry (c, text) ≡ true =
    both (is_cell c) (is_cell_text text) (first_of_both (is_cell c) some front)
    (both (some && nat_le (length text) CELL_SIZE) (list_all is_printable text)
    (both some (nat_le (length text) CELL_SIZE) (second_of_both (is_cell c) some front) w.did_fit)
    (second_of_both (is_cell c && some) (list_all is_printable text) w.was_asked)) in
    stays_as (table es) (table (with_cell c text es)) d w.became refl (table-set c text es entry was)

clear_stays : (c : Cell) (es : List (Cell × List ℕ)) (d : Content) → edited (clear c) (table es) ≡ Ok d
    → is_content (table es) ≡ true → Stays (table es) d
clear_stays c es d h was =
    let w = went (is_cell c && list_any (is_at c) es) true (table (without_cell c es)) d h in
    stays_as (table es) (table (without_cell c es)) d w.became refl (table-clear c es was)

add_stays : (s : Shape) (ss : List Shape) (d : Content) → edited (add s) (drawing ss) ≡ Ok d
    → is_content (drawing ss) ≡ true → Stays (drawing ss) d
add_stays s ss d h was =
    let w = went (is_shape s) (nat_lt (length ss) DRAWING_SIZE) (drawing (ss ++ s ∷ [])) d h in
    stays_as (drawing ss) (drawing (ss ++ s ∷ [])) d w.became refl
    (drawing-add s ss w.was_asked (lt_told (length ss) DRAWING_SIZE w.did_fit) was)

remove_stays : (i : ℕ) (ss : List Shape) (d : Content) → edited (remove i) (drawing ss) ≡ Ok d
    → is_content (drawing ss) ≡ true → Stays (drawing ss) d
remove_stays i ss d h was =
    let w = went (nat_le 1 i && nat_le i (length ss)) true (drawing (take (i - 1) ss ++ drop i ss)) d h in
    let some : 1 ≤ i = le_told 1 i (first_of_both (nat_le 1 i) (nat_le i (length ss)) w.was_asked) in
    stays_as (drawing ss) (drawing (take (i - 1) ss ++ drop i ss)) d w.became refl (drawing-remove i ss some was)

raise_stays : (i : ℕ) (ss : List Shape) (d : Content) → edited (raise i) (drawing ss) ≡ Ok d
    → is_content (drawing ss) ≡ true → Stays (drawing ss) d
raise_stays i ss d h was =
    let made = drawing (take (i - 1) ss ++ drop i ss ++ take 1 (drop (i - 1) ss)) in
    let w = went (nat_le 1 i && nat_le i (length ss)) true made d h in
    let some : 1 ≤ i = le_told 1 i (first_of_both (nat_le 1 i) (nat_le i (length ss)) w.was_asked) in
    stays_as (drawing ss) made d w.became refl (drawing-raise i ss some was)

pub edited_stays : (e : Edit) (c d : Content) → edited e c ≡ Ok d → is_content c ≡ true → Stays c d
edited_stays (insert p text) (note t) d h was = insert_stays p text t d h was
edited_stays (delete p n) (note t) d h was = delete_stays p n t d h was
edited_stays (set c text) (table es) d h was = set_stays c text es d h was
edited_stays (clear c) (table es) d h was = clear_stays c es d h was
edited_stays (add s) (drawing ss) d h was = add_stays s ss d h was
edited_stays (remove i) (drawing ss) d h was = remove_stays i ss d h was
edited_stays (raise i) (drawing ss) d h was = raise_stays i ss d h was
edited_stays e c d h was = cc

told_stays : (e : Option Edit) (c d : Content) → edit_told c e ≡ Ok d → is_content c ≡ true → Stays c d
told_stays None c d h was = cc
told_stays (Some e) c d h was = edited_stays e c d h was

pub edits_stay : EditsStay
edits_stay c d bytes h was = told_stays (edit_of (kind_of c) bytes) c d h was
