-- What is spelled is read.
use Rattle.std.proofs.Common.{◌≡◌, ◌≤◌, ◌<◌, ◌+◌, ◌-◌, ◌^◌, ◌&&◌, ℕ, Bool, true, false, cond, List, [], ◌∷◌, ◌++◌, refl}
use Rattle.std.proofs.Common.{ap, ◌∙◌, arith, nat_le, nat_eq, eq-eqb, append-nil}
use Rattle.std.specs.Prelude.{Option, Some, None, option_map, not}
use Rattle.std.specs.Char.{is_ascii_digit}
use Rattle.std.specs.Str.{all_ascii_digits}
use Rattle.std.specs.Fmt.{decimal}
use Rattle.std.specs.List.{list_all, onto_first}
use Rattle.std.proofs.lemmas.Bool.{ne_eqb}
use Rattle.std.proofs.lemmas.List.Splits.{slice_split-cons_yes, slice_split-cons_no}
use Rattle.object_core.specs.Content.{Cell, Shape, box, line, Direction, across, down, cell_bytes, direction_byte}
use Rattle.object_core.specs.Content.{shape_bytes, spaced}
use Rattle.object_core.specs.Edits.{insert, delete, set, clear, add, remove, raise, spelled, IsSmallShape}
use Rattle.object_core.specs.Kinds.{Note, Table, Drawing}
use Rattle.object_core.specs.Reading.{SpelledIsRead, edit_of, edit_in, cell_of, direction_of, shape_of, pair_of}
use Rattle.object_core.specs.Reading.{with_two, box_of, line_of}
use Rattle.text_words.specs.Words.{pieces, words, number_read}
use Rattle.text_words.proofs.Passing.{both, first_of_both, second_of_both, le_passes, le_told}
use Rattle.text_words.proofs.Numerals.{number_read-decimal, numerals}
use Rattle.object_core.proofs.Behind.{place_and_text-rest, cell_and_text-rest}
use Rattle.std.proofs.lemmas.Fmt.{digits_decimal}

-- a text has no such byte
abbrev pub lacks : ℕ → List ℕ → Bool
lacks c xs = list_all (λ x. not (nat_eq x c)) xs

not_told : (b : Bool) → not b ≡ true → b ≡ false
not_told true h = cc
not_told false h = refl

-- a piece that the byte ends
pub pieces-ended : (c : ℕ) (xs rest : List ℕ) → lacks c xs ≡ true → pieces c (xs ++ c ∷ rest) ≡ xs ∷ pieces c rest
pieces-ended c [] rest h = slice_split-cons_yes (λ b. nat_eq b c) c rest (eq-eqb c c refl)
pieces-ended c (x ∷ xs) rest h =
    slice_split-cons_no (λ b. nat_eq b c) x (xs ++ c ∷ rest)
    (not_told (nat_eq x c) (first_of_both (not (nat_eq x c)) (lacks c xs) h))
    ∙ ap (onto_first x) (pieces-ended c xs rest (second_of_both (not (nat_eq x c)) (lacks c xs) h))

-- a piece alone
pub pieces-one : (c : ℕ) (xs : List ℕ) → lacks c xs ≡ true → pieces c xs ≡ xs ∷ []
pieces-one c [] h = refl
pieces-one c (x ∷ xs) h =
    slice_split-cons_no (λ b. nat_eq b c) x xs (not_told (nat_eq x c) (first_of_both (not (nat_eq x c)) (lacks c xs) h))
    ∙ ap (onto_first x) (pieces-one c xs (second_of_both (not (nat_eq x c)) (lacks c xs) h))

-- words that spaces part
pub words-spaced : (w : List ℕ) (ws : List (List ℕ)) → lacks 32 w ≡ true → list_all (lacks 32) ws ≡ true
    → words (w ++ spaced ws) ≡ w ∷ ws
words-spaced w [] h hs = ap words (append-nil w) ∙ pieces-one 32 w h
words-spaced w (v ∷ vs) h hs =
    pieces-ended 32 w (v ++ spaced vs) h
    ∙ ap (λ found. w ∷ found) (words-spaced v vs (first_of_both (lacks 32 v) (list_all (lacks 32) vs) hs)
    (second_of_both (lacks 32 v) (list_all (lacks 32) vs) hs))

other_passes : (x c : ℕ) → (x ≡ c → ⊥) → not (nat_eq x c) ≡ true
other_passes x c ne = ap not (ne_eqb x c ne)

digit-other : (x c : ℕ) → c < 48 → is_ascii_digit x ≡ true → x ≡ c → ⊥
digit-other x c h d e = let low : 48 ≤ x = le_told 48 x (first_of_both (nat_le 48 x) (nat_le x 57) d) in omega arith

digits_lack : (c : ℕ) (ds : List ℕ) → c < 48 → all_ascii_digits ds ≡ true → lacks c ds ≡ true
digits_lack c [] h d = refl
digits_lack c (x ∷ xs) h d =
    both (not (nat_eq x c)) (lacks c xs)
    (other_passes x c (digit-other x c h (first_of_both (is_ascii_digit x) (all_ascii_digits xs) d)))
    (digits_lack c xs h (second_of_both (is_ascii_digit x) (all_ascii_digits xs) d))

-- numbers and cells have neither spaces nor line feeds
pub decimal_lacks : (c n : ℕ) → c < 48 → n < 2 ^ 32 → lacks c (decimal n) ≡ true
decimal_lacks c n h small = digits_lack c (decimal n) h (digits_decimal numerals n (omega arith))

pub cell_lacks : (b : ℕ) (c : Cell) → b < 48 → c.row < 2 ^ 32 → lacks b (cell_bytes c) ≡ true
cell_lacks b c h small =
    both (not (nat_eq (65 + c.column) b)) (lacks b (decimal c.row))
    (other_passes (65 + c.column) b (λ e. omega arith)) (decimal_lacks b c.row h small)

-- a cell is read as it is spelled
pub cell_of-cell_bytes : (c : Cell) → c.row < 2 ^ 32 → cell_of (cell_bytes c) ≡ Some c
cell_of-cell_bytes c small =
    let read : Option Cell = option_map (λ n. record { column = 65 + c.column - 65; row = n })
    (number_read (decimal c.row)) in
    let letter : cell_of (cell_bytes c) ≡ read = ap (λ b. cond b read None)
    (le_passes 65 (65 + c.column) (omega arith)) in
    let number : read ≡ Some (record { column = 65 + c.column - 65; row = c.row }) =
    ap (λ (r : Option ℕ). option_map (λ n. record { column = 65 + c.column - 65; row = n }) r)
    (number_read-decimal c.row small) in
    let column : 65 + c.column - 65 ≡ c.column = omega arith in
    letter ∙ number ∙ ap (λ k. Some (record { column = k; row = c.row })) column

two_read : {A : Type 0} (f : ℕ → ℕ → A) (m n : ℕ) → m < 2 ^ 32 → n < 2 ^ 32
    → with_two f (number_read (decimal m)) (number_read (decimal n)) ≡ Some (f m n)
two_read f m n h k =
    ap (λ r. with_two f r (number_read (decimal n))) (number_read-decimal m h)
    ∙ ap (λ r. with_two f (Some m) r) (number_read-decimal n k)

insert_read : (p : ℕ) (text : List ℕ) → p < 2 ^ 32 → edit_of Note (spelled (insert p text)) ≡ Some (insert p text)
insert_read p text h =
    let rest = text ++ [] in
    let told : words (spelled (insert p text)) ≡ (105 ∷ []) ∷ decimal p ∷ words rest =
    pieces-ended 32 (105 ∷ []) (decimal p ++ 32 ∷ rest) refl ∙ ap (λ ws. (105 ∷ []) ∷ ws)
    (pieces-ended 32 (decimal p) rest (decimal_lacks 32 p (omega arith) h)) in
    ap (edit_in Note) told ∙ place_and_text-rest (decimal p) rest
    ∙ ap (λ (r : Option ℕ). option_map (λ n. insert n rest) r) (number_read-decimal p h)
    ∙ ap (λ t. Some (insert p t)) (append-nil text)

delete_read : (p n : ℕ) → p < 2 ^ 32 → n < 2 ^ 32 → edit_of Note (spelled (delete p n)) ≡ Some (delete p n)
delete_read p n h k =
    let a = decimal_lacks 32 p (omega arith) h in
    let b = decimal_lacks 32 n (omega arith) k in
    let told : words (spelled (delete p n)) ≡ (100 ∷ []) ∷ decimal p ∷ decimal n ∷ [] =
    words-spaced (100 ∷ []) (decimal p ∷ decimal n ∷ []) refl
    (both (lacks 32 (decimal p)) (lacks 32 (decimal n) && true) a (both (lacks 32 (decimal n)) true b refl)) in
    ap (edit_in Note) told ∙ two_read delete p n h k

set_read : (c : Cell) (text : List ℕ) → c.row < 2 ^ 32 → edit_of Table (spelled (set c text)) ≡ Some (set c text)
set_read c text h =
    let rest = text ++ [] in
    let told : words (spelled (set c text)) ≡ (115 ∷ []) ∷ cell_bytes c ∷ words rest =
    pieces-ended 32 (115 ∷ []) (cell_bytes c ++ 32 ∷ rest) refl ∙ ap (λ ws. (115 ∷ []) ∷ ws)
    (pieces-ended 32 (cell_bytes c) rest (cell_lacks 32 c (omega arith) h)) in
    ap (edit_in Table) told ∙ cell_and_text-rest (cell_bytes c) rest
    ∙ ap (λ (r : Option Cell). option_map (λ cell. set cell rest) r) (cell_of-cell_bytes c h)
    ∙ ap (λ t. Some (set c t)) (append-nil text)

clear_read : (c : Cell) → c.row < 2 ^ 32 → edit_of Table (spelled (clear c)) ≡ Some (clear c)
clear_read c h =
    let told : words (spelled (clear c)) ≡ (99 ∷ []) ∷ cell_bytes c ∷ [] =
    words-spaced (99 ∷ []) (cell_bytes c ∷ []) refl
    (both (lacks 32 (cell_bytes c)) true (cell_lacks 32 c (omega arith) h) refl) in
    ap (edit_in Table) told ∙ ap (λ (r : Option Cell). option_map clear r) (cell_of-cell_bytes c h)

pub four_lack : (a b c d : List ℕ) → lacks 32 a ≡ true → lacks 32 b ≡ true → lacks 32 c ≡ true → lacks 32 d ≡ true
    → list_all (lacks 32) (a ∷ b ∷ c ∷ d ∷ []) ≡ true
four_lack a b c d ha hb hc hd =
    both (lacks 32 a) (lacks 32 b && (lacks 32 c && (lacks 32 d && true))) ha
    (both (lacks 32 b) (lacks 32 c && (lacks 32 d && true)) hb
    (both (lacks 32 c) (lacks 32 d && true) hc (both (lacks 32 d) true hd refl)))

pub box_words : (x y w h : ℕ) → IsSmallShape (box x y w h) → words (shape_bytes (box x y w h))
    ≡ (98 ∷ []) ∷ decimal x ∷ decimal y ∷ decimal w ∷ decimal h ∷ []
box_words x y w h s =
    words-spaced (98 ∷ []) (decimal x ∷ decimal y ∷ decimal w ∷ decimal h ∷ []) refl
    (four_lack (decimal x) (decimal y) (decimal w) (decimal h) (decimal_lacks 32 x (omega arith) s.0)
    (decimal_lacks 32 y (omega arith) s.1)
    (decimal_lacks 32 w (omega arith) s.2) (decimal_lacks 32 h (omega arith) s.3))

direction_lacks : (d : Direction) → lacks 32 (direction_byte d ∷ []) ≡ true
direction_lacks across = refl
direction_lacks down = refl

direction_read : (d : Direction) → direction_of (direction_byte d ∷ []) ≡ Some d
direction_read across = refl
direction_read down = refl

pub line_words : (x y : ℕ) (d : Direction) (n : ℕ) → IsSmallShape (line x y d n)
    → words (shape_bytes (line x y d n)) ≡ (108 ∷ []) ∷ decimal x ∷ decimal y ∷ (direction_byte d ∷ []) ∷ decimal n ∷ []
line_words x y d n s =
    words-spaced (108 ∷ []) (decimal x ∷ decimal y ∷ (direction_byte d ∷ []) ∷ decimal n ∷ []) refl
    (four_lack (decimal x) (decimal y) (direction_byte d ∷ []) (decimal n) (decimal_lacks 32 x (omega arith) s.0)
    (decimal_lacks 32 y (omega arith) s.1)
    (direction_lacks d) (decimal_lacks 32 n (omega arith) s.2))

pub pair_read : (m n : ℕ) → m < 2 ^ 32 → n < 2 ^ 32 → pair_of (decimal m) (decimal n) ≡ Some (m, n)
pair_read m n h k = two_read (λ a b. (a, b)) m n h k

-- a box is read as it is spelled
pub box_read : (x y w h : ℕ) → IsSmallShape (box x y w h)
    → shape_of 98 (decimal x ∷ decimal y ∷ decimal w ∷ decimal h ∷ []) ≡ Some (box x y w h)
box_read x y w h s =
    ap (λ at. box_of at (pair_of (decimal w) (decimal h))) (pair_read x y s.0 s.1)
    ∙ ap (λ size. box_of (Some (x, y)) size) (pair_read w h s.2 s.3)

-- and a line
pub line_read : (x y : ℕ) (d : Direction) (n : ℕ) → IsSmallShape (line x y d n)
    → shape_of 108 (decimal x ∷ decimal y ∷ (direction_byte d ∷ []) ∷ decimal n ∷ []) ≡ Some (line x y d n)
line_read x y d n s =
    ap (λ at. line_of at (direction_of (direction_byte d ∷ [])) (number_read (decimal n))) (pair_read x y s.0 s.1)
    ∙ ap (λ to. line_of (Some (x, y)) to (number_read (decimal n))) (direction_read d)
    ∙ ap (λ count. line_of (Some (x, y)) (Some d) count) (number_read-decimal n s.2)

add_read : (s : Shape) → IsSmallShape s → edit_of Drawing (spelled (add s)) ≡ Some (add s)
add_read (box x y w h) s = ap (edit_in Drawing) (box_words x y w h s) ∙ ap (option_map add) (box_read x y w h s)
add_read (line x y d n) s = ap (edit_in Drawing) (line_words x y d n s) ∙ ap (option_map add) (line_read x y d n s)

one_word : (b n : ℕ) → lacks 32 (b ∷ []) ≡ true → n < 2 ^ 32 → words (b ∷ spaced (decimal n ∷ []))
    ≡ (b ∷ []) ∷ decimal n ∷ []
one_word b n l h = words-spaced (b ∷ []) (decimal n ∷ []) l
    (both (lacks 32 (decimal n)) true (decimal_lacks 32 n (omega arith) h) refl)

remove_read : (i : ℕ) → i < 2 ^ 32 → edit_of Drawing (spelled (remove i)) ≡ Some (remove i)
remove_read i h = ap (edit_in Drawing) (one_word 114 i refl h) ∙ ap (option_map remove) (number_read-decimal i h)

raise_read : (i : ℕ) → i < 2 ^ 32 → edit_of Drawing (spelled (raise i)) ≡ Some (raise i)
raise_read i h = ap (edit_in Drawing) (one_word 117 i refl h) ∙ ap (option_map raise) (number_read-decimal i h)

pub spelled_is_read : SpelledIsRead
spelled_is_read (insert p text) s = insert_read p text s
spelled_is_read (delete p n) s = delete_read p n s.0 s.1
spelled_is_read (set c text) s = set_read c text s
spelled_is_read (clear c) s = clear_read c s
spelled_is_read (add shape) s = add_read shape s
spelled_is_read (remove i) s = remove_read i s
spelled_is_read (raise i) s = raise_read i s
