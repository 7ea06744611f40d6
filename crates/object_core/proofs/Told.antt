-- What is read was so spelled.
use Rattle.std.proofs.Common.{◌≡◌, ◌≤◌, ◌+◌, ◌-◌, ℕ, cond, List, [], ◌∷◌, ◌++◌, refl, ap, sym, ◌∙◌, arith, nat_le}
use Rattle.std.proofs.Common.{nat_eq, append-nil}
use Rattle.std.specs.Prelude.{Option, Some, None, option_map, option_and_then}
use Rattle.std.specs.Fmt.{decimal}
use Rattle.std.proofs.lemmas.List.Splits.{join_with_byte-slice_split}
use Rattle.object_core.specs.Content.{Cell, Shape, box, line, Direction, across, down, cell_bytes, direction_byte}
use Rattle.object_core.specs.Content.{shape_bytes, spaced}
use Rattle.object_core.specs.Edits.{Edit, insert, delete, set, clear, add, remove, raise, spelled}
use Rattle.object_core.specs.Kinds.{Kind, Note, Table, Drawing}
use Rattle.object_core.specs.Reading.{ReadWasSpelled, text_of, edit_in, edit_by, cell_of, direction_of, shape_of}
use Rattle.object_core.specs.Reading.{pair_of, with_two, box_of, line_of, one_number, place_and_text, place_and_count}
use Rattle.object_core.specs.Reading.{cell_and_text, cell_alone}
use Rattle.text_words.specs.Words.{words, number_read}
use Rattle.text_words.proofs.Passing.{told_cond, eq_told, le_told}
use Rattle.text_words.proofs.Numerals.{number_told}

pub record Mapped {A B : Type 0} (f : A → B) (o : Option A) (b : B) : Type 0 where
  pub value : A
  pub was : o ≡ Some value
  pub became : f value ≡ b

pub mapped : {A B : Type 0} (f : A → B) (o : Option A) (b : B) → option_map f o ≡ Some b → Mapped f o b
mapped f None b h = cc
mapped f (Some a) b h = let e : f a ≡ b = cc in record { value = a; was = refl; became = e }

pub record Chained {A B : Type 0} (f : A → Option B) (o : Option A) (b : B) : Type 0 where
  pub value : A
  pub was : o ≡ Some value
  pub became : f value ≡ Some b

pub chained : {A B : Type 0} (f : A → Option B) (o : Option A) (b : B) → option_and_then f o ≡ Some b → Chained f o b
chained f None b h = cc
chained f (Some a) b h = record { value = a; was = refl; became = h }

record Two {A : Type 0} (f : ℕ → ℕ → A) (l r : Option ℕ) (x : A) : Type 0 where
  pub first : ℕ
  pub second : ℕ
  pub first_was : l ≡ Some first
  pub second_was : r ≡ Some second
  pub became : f first second ≡ x

two : {A : Type 0} (f : ℕ → ℕ → A) (l r : Option ℕ) (x : A) → with_two f l r ≡ Some x → Two f l r x
two f (Some a) (Some b) x h = let e : f a b ≡ x = cc in
    record { first = a; second = b; first_was = refl; second_was = refl; became = e }
two f (Some a) None x h = cc
two f None r x h = cc

decimal_told : (ds : List ℕ) (n : ℕ) → number_read ds ≡ Some n → decimal n ≡ ds
decimal_told ds n h = let is = number_told ds n h in is.spelled

-- words behind a space each are a space and the words joined
pub spaced-joined : (w : List ℕ) (ws : List (List ℕ)) → spaced (w ∷ ws) ≡ 32 ∷ text_of (w ∷ ws)
spaced-joined w [] = ap (λ t. 32 ∷ t) (append-nil w)
spaced-joined w (v ∷ vs) = ap (λ t. 32 ∷ (w ++ t)) (spaced-joined v vs)

letter_spaced : (c : ℕ) (w : List ℕ) (ws : List (List ℕ)) → c ∷ spaced (w ∷ ws) ≡ text_of ((c ∷ []) ∷ w ∷ ws)
letter_spaced c w ws = ap (λ t. c ∷ t) (spaced-joined w ws)

-- a last word may be a text with spaces of its own
text_spaced : (w t : List ℕ) (ts : List (List ℕ)) → spaced (w ∷ text_of (t ∷ ts) ∷ []) ≡ spaced (w ∷ t ∷ ts)
text_spaced w t ts = ap (λ r. 32 ∷ (w ++ r)) (ap (λ r. 32 ∷ r) (append-nil (text_of (t ∷ ts)))
    ∙ sym (spaced-joined t ts))

-- a cell was spelled as it is read
pub cell_told : (w : List ℕ) (c : Cell) → cell_of w ≡ Some c → cell_bytes c ≡ w
cell_told [] c h = cc
cell_told (x ∷ ds) c h =
    let cell : ℕ → Cell = λ n. record { column = x - 65; row = n } in
    let read : Option Cell = option_map cell (number_read ds) in
    told_cond (λ (told : Option Cell). told ≡ Some c → cell_bytes c ≡ x ∷ ds) (nat_le 65 x) read None
    (λ letter told.
    let m = mapped cell (number_read ds) c told in
    let column : 65 + (x - 65) ≡ x = (let le : 65 ≤ x = le_told 65 x letter in omega arith) in
    ap cell_bytes (sym m.became) ∙ ap (λ k. k ∷ decimal m.value) column
    ∙ ap (λ t. x ∷ t) (decimal_told ds m.value m.was))
    (λ other told. cc)
    h

direction_told : (w : List ℕ) (d : Direction) → direction_of w ≡ Some d → direction_byte d ∷ [] ≡ w
direction_told [] d h = cc
direction_told (c ∷ e ∷ r) d h = cc
direction_told (c ∷ []) d h =
    told_cond (λ (told : Option Direction). told ≡ Some d → direction_byte d ∷ [] ≡ c ∷ []) (nat_eq c 104)
    (Some across) (cond (nat_eq c 118) (Some down) None)
    (λ first told. let e : across ≡ d = cc in ap (λ k. direction_byte k ∷ []) (sym e)
    ∙ ap (λ b. b ∷ []) (sym (eq_told c 104 first)))
    (λ other. told_cond (λ (told : Option Direction). told ≡ Some d → direction_byte d ∷ [] ≡ c ∷ []) (nat_eq c 118)
    (Some down) None
    (λ second told. let e : down ≡ d = cc in ap (λ k. direction_byte k ∷ []) (sym e)
    ∙ ap (λ b. b ∷ []) (sym (eq_told c 118 second)))
    (λ none told. cc))
    h

-- a place or a size
record Pair (a b : List ℕ) (p : ℕ × ℕ) : Type 0 where
  pub first : decimal p.0 ≡ a
  pub second : decimal p.1 ≡ b

pair_told : (a b : List ℕ) (p : ℕ × ℕ) → pair_of a b ≡ Some p → Pair a b p
pair_told a b p h =
    let t = two (λ m n. (m, n)) (number_read a) (number_read b) p h in
    record {
      first = ap (λ (q : ℕ × ℕ). decimal q.0) (sym t.became) ∙ decimal_told a t.first t.first_was;
      second = ap (λ (q : ℕ × ℕ). decimal q.1) (sym t.became) ∙ decimal_told b t.second t.second_was;
    }

box_told : (at size : Option (ℕ × ℕ)) (a b c d : List ℕ) (s : Shape) → pair_of a b ≡ at → pair_of c d ≡ size
    → box_of at size ≡ Some s
    → shape_bytes s ≡ 98 ∷ spaced (a ∷ b ∷ c ∷ d ∷ [])
box_told None size a b c d s e f h = cc
box_told (Some at) None a b c d s e f h = cc
box_told (Some at) (Some size) a b c d s e f h =
    let p = pair_told a b at e in
    let q = pair_told c d size f in
    let is : box at.0 at.1 size.0 size.1 ≡ s = cc in
    ap shape_bytes (sym is)
    ∙ ap (λ t. 98 ∷ spaced (t ∷ decimal at.1 ∷ decimal size.0 ∷ decimal size.1 ∷ [])) p.first
    ∙ ap (λ t. 98 ∷ spaced (a ∷ t ∷ decimal size.0 ∷ decimal size.1 ∷ [])) p.second
    ∙ ap (λ t. 98 ∷ spaced (a ∷ b ∷ t ∷ decimal size.1 ∷ [])) q.first
    ∙ ap (λ t. 98 ∷ spaced (a ∷ b ∷ c ∷ t ∷ [])) q.second

line_told : (at : Option (ℕ × ℕ)) (to : Option Direction) (count : Option ℕ) (a b c d : List ℕ) (s : Shape)
    → pair_of a b ≡ at → direction_of c ≡ to
    → number_read d ≡ count → line_of at to count ≡ Some s → shape_bytes s ≡ 108 ∷ spaced (a ∷ b ∷ c ∷ d ∷ [])
line_told None to count a b c d s e f g h = cc
line_told (Some at) None count a b c d s e f g h = cc
line_told (Some at) (Some to) None a b c d s e f g h = cc
line_told (Some at) (Some to) (Some n) a b c d s e f g h =
    let p = pair_told a b at e in
    let is : line at.0 at.1 to n ≡ s = cc in
    ap shape_bytes (sym is)
    ∙ ap (λ t. 108 ∷ spaced (t ∷ decimal at.1 ∷ (direction_byte to ∷ []) ∷ decimal n ∷ [])) p.first
    ∙ ap (λ t. 108 ∷ spaced (a ∷ t ∷ (direction_byte to ∷ []) ∷ decimal n ∷ [])) p.second
    ∙ ap (λ t. 108 ∷ spaced (a ∷ b ∷ t ∷ decimal n ∷ [])) (direction_told c to f)
    ∙ ap (λ t. 108 ∷ spaced (a ∷ b ∷ c ∷ t ∷ [])) (decimal_told d n g)

-- a shape was spelled as it is read
pub shape_told : (b : ℕ) (ws : List (List ℕ)) (s : Shape) → shape_of b ws ≡ Some s
    → shape_bytes s ≡ text_of ((b ∷ []) ∷ ws)
shape_told k (x ∷ y ∷ w ∷ h ∷ []) s told =
    let P : Option Shape → Type 0 = λ found. found ≡ Some s → shape_bytes s ≡ text_of ((k ∷ []) ∷ x ∷ y ∷ w ∷ h ∷ []) in
    told_cond P (nat_eq k 98) (box_of (pair_of x y) (pair_of w h))
    (cond (nat_eq k 108) (line_of (pair_of x y) (direction_of w) (number_read h)) None)
    (λ first found.
    box_told (pair_of x y) (pair_of w h) x y w h s refl refl found ∙ letter_spaced 98 x (y ∷ w ∷ h ∷ [])
    ∙ ap (λ c. text_of ((c ∷ []) ∷ x ∷ y ∷ w ∷ h ∷ [])) (sym (eq_told k 98 first)))
    (λ other. told_cond P (nat_eq k 108) (line_of (pair_of x y) (direction_of w) (number_read h)) None
    (λ second found.
    line_told (pair_of x y) (direction_of w) (number_read h) x y w h s refl refl refl found
    ∙ letter_spaced 108 x (y ∷ w ∷ h ∷ [])
    ∙ ap (λ c. text_of ((c ∷ []) ∷ x ∷ y ∷ w ∷ h ∷ [])) (sym (eq_told k 108 second)))
    (λ none found. cc))
    told
shape_told k ws s told = cc

-- Each form of an edit was spelled as it is read.
text_told : (ws : List (List ℕ)) (e : Edit) → place_and_text ws ≡ Some e → spelled e ≡ text_of ((105 ∷ []) ∷ ws)
text_told [] e h = cc
text_told (p ∷ []) e h = cc
text_told (p ∷ t ∷ ts) e h =
    let made : ℕ → Edit = λ n. insert n (text_of (t ∷ ts)) in
    let m = mapped made (number_read p) e h in
    ap spelled (sym m.became) ∙ ap (λ d. 105 ∷ spaced (d ∷ text_of (t ∷ ts) ∷ [])) (decimal_told p m.value m.was)
    ∙ ap (λ r. 105 ∷ r) (text_spaced p t ts) ∙ letter_spaced 105 p (t ∷ ts)

count_told : (ws : List (List ℕ)) (e : Edit) → place_and_count ws ≡ Some e → spelled e ≡ text_of ((100 ∷ []) ∷ ws)
count_told [] e h = cc
count_told (p ∷ []) e h = cc
count_told (p ∷ n ∷ x ∷ more) e h = cc
count_told (p ∷ n ∷ []) e h =
    let t = two delete (number_read p) (number_read n) e h in
    ap spelled (sym t.became) ∙ ap (λ d. 100 ∷ spaced (d ∷ decimal t.second ∷ [])) (decimal_told p t.first t.first_was)
    ∙ ap (λ d. 100 ∷ spaced (p ∷ d ∷ [])) (decimal_told n t.second t.second_was) ∙ letter_spaced 100 p (n ∷ [])

set_told : (ws : List (List ℕ)) (e : Edit) → cell_and_text ws ≡ Some e → spelled e ≡ text_of ((115 ∷ []) ∷ ws)
set_told [] e h = cc
set_told (c ∷ []) e h = cc
set_told (c ∷ t ∷ ts) e h =
    let made : Cell → Edit = λ cell. set cell (text_of (t ∷ ts)) in
    let m = mapped made (cell_of c) e h in
    ap spelled (sym m.became) ∙ ap (λ d. 115 ∷ spaced (d ∷ text_of (t ∷ ts) ∷ [])) (cell_told c m.value m.was)
    ∙ ap (λ r. 115 ∷ r) (text_spaced c t ts) ∙ letter_spaced 115 c (t ∷ ts)

clear_told : (ws : List (List ℕ)) (e : Edit) → cell_alone ws ≡ Some e → spelled e ≡ text_of ((99 ∷ []) ∷ ws)
clear_told [] e h = cc
clear_told (c ∷ x ∷ more) e h = cc
clear_told (c ∷ []) e h =
    let m = mapped clear (cell_of c) e h in
    ap spelled (sym m.became) ∙ ap (λ d. 99 ∷ spaced (d ∷ [])) (cell_told c m.value m.was) ∙ letter_spaced 99 c []

number_alone_told : (b : ℕ) (f : ℕ → Edit) → ((n : ℕ) → spelled (f n) ≡ b ∷ spaced (decimal n ∷ []))
    → (ws : List (List ℕ)) (e : Edit)
    → one_number f ws ≡ Some e → spelled e ≡ text_of ((b ∷ []) ∷ ws)
number_alone_told b f is [] e h = cc
number_alone_told b f is (n ∷ x ∷ more) e h = cc
number_alone_told b f is (n ∷ []) e h =
    let m = mapped f (number_read n) e h in
    ap spelled (sym m.became) ∙ is m.value ∙ ap (λ d. b ∷ spaced (d ∷ [])) (decimal_told n m.value m.was)
    ∙ letter_spaced b n []

add_told : (b : ℕ) (ws : List (List ℕ)) (e : Edit) → option_map add (shape_of b ws) ≡ Some e
    → spelled e ≡ text_of ((b ∷ []) ∷ ws)
add_told b ws e h =
    let m = mapped add (shape_of b ws) e h in
    ap spelled (sym m.became) ∙ shape_told b ws m.value m.was

-- with the letter in front
by_letter : (c b : ℕ) (found rest : Option Edit) (ws : List (List ℕ)) (e : Edit)
    → (found ≡ Some e → spelled e ≡ text_of ((b ∷ []) ∷ ws)) → (rest ≡ Some e → spelled e ≡ text_of ((c ∷ []) ∷ ws))
    → cond (nat_eq c b) found rest ≡ Some e → spelled e ≡ text_of ((c ∷ []) ∷ ws)
by_letter c b found rest ws e first others h =
    told_cond (λ (told : Option Edit). told ≡ Some e → spelled e ≡ text_of ((c ∷ []) ∷ ws)) (nat_eq c b) found rest
    (λ same told. first told ∙ ap (λ k. text_of ((k ∷ []) ∷ ws)) (sym (eq_told c b same)))
    (λ other told. others told)
    h

edit_by_told : (k : Kind) (c : ℕ) (ws : List (List ℕ)) (e : Edit) → edit_by k c ws ≡ Some e
    → spelled e ≡ text_of ((c ∷ []) ∷ ws)
edit_by_told Note c ws e h =
    by_letter c 105 (place_and_text ws) (cond (nat_eq c 100) (place_and_count ws) None) ws e (text_told ws e)
    (by_letter c 100 (place_and_count ws) None ws e (count_told ws e) (λ none. cc)) h
edit_by_told Table c ws e h =
    by_letter c 115 (cell_and_text ws) (cond (nat_eq c 99) (cell_alone ws) None) ws e (set_told ws e)
    (by_letter c 99 (cell_alone ws) None ws e (clear_told ws e) (λ none. cc)) h
edit_by_told Drawing c ws e h =
    by_letter c 114 (one_number remove ws)
    (cond (nat_eq c 117) (one_number raise ws) (option_map add (shape_of c ws))) ws e
    (number_alone_told 114 remove (λ n. refl) ws e)
    (by_letter c 117 (one_number raise ws) (option_map add (shape_of c ws)) ws e
    (number_alone_told 117 raise (λ n. refl) ws e) (add_told c ws e)) h

edit_in_told : (k : Kind) (ws : List (List ℕ)) (e : Edit) → edit_in k ws ≡ Some e → spelled e ≡ text_of ws
edit_in_told k ((c ∷ []) ∷ ws) e h = edit_by_told k c ws e h
edit_in_told k ws e h = cc

pub read_was_spelled : ReadWasSpelled
read_was_spelled k bytes e h = edit_in_told k (words bytes) e h ∙ join_with_byte-slice_split 32 bytes
