-- What is stored is loaded, and what is loaded was so stored.
use Rattle.std.proofs.Common.{◌≡◌, ◌≤◌, ◌<◌, ◌^◌, ◌&&◌, ℕ, Bool, true, cond, List, [], ◌∷◌, ◌++◌, length, map, refl, ap}
use Rattle.std.proofs.Common.{sym, ◌∙◌, arith, nat_le, nat_lt, nat_eq, append_assoc}
use Rattle.std.specs.Prelude.{Option, Some, None, Result, Ok, Err, option_map, option_and_then, not}
use Rattle.std.specs.Fmt.{decimal}
use Rattle.std.specs.List.{join_with_byte, list_all, flat_map}
use Rattle.std.proofs.lemmas.Bool.{ne_eqb}
use Rattle.std.proofs.lemmas.List.Folds.{list_all-append}
use Rattle.std.proofs.lemmas.List.Splits.{join_with_byte-slice_split}
use Rattle.cfb_names.specs.Names.{key, key_eq}
use Rattle.object_core.specs.Content.{Cell, Shape, box, line, Direction, across, down, Content, note, table, drawing}
use Rattle.object_core.specs.Content.{is_content, is_cell, is_cell_text, is_entry, is_rising, is_shape, cell_place}
use Rattle.object_core.specs.Content.{cell_bytes, direction_byte, entry_bytes, shape_bytes, shape_line, spaced}
use Rattle.object_core.specs.Content.{stream_name, stream_bytes, stored, CELL_SIZE, DRAWING_SIZE}
use Rattle.object_state.specs.Printable.{is_printable}
use Rattle.object_core.specs.Edits.{IsSmallShape}
use Rattle.object_core.specs.Kinds.{Kind, Note, Table, Drawing, kind_of, empty}
use Rattle.object_core.specs.Objects.{StoredIsLoaded, LoadedWasStored, load_told, sole_bytes}
use Rattle.object_core.specs.Pictures.{ended_line}
use Rattle.object_core.specs.Reading.{text_of, cell_of, content_of, each, entry_in, lines_of, shape_in, whole_lines}
use Rattle.text_words.specs.Words.{pieces, words}
use Rattle.object_core.specs.declared.fault.EmbedFault.{EmbedFault}
use Rattle.object_core.specs.declared.fault.EmbedFault.TheVariants.{BadContent}
use Rattle.object_core.proofs.Behind.{entry_in-rest}
use Rattle.text_words.proofs.Cuts.{pieces-known}
use Rattle.object_core.proofs.Spelling.{lacks, pieces-ended, decimal_lacks, cell_lacks, cell_of-cell_bytes, box_words}
use Rattle.object_core.proofs.Spelling.{line_words, box_read, line_read}
use Rattle.text_words.proofs.Passing.{both, first_of_both, second_of_both, told_cond, le_told}
use Rattle.object_core.proofs.Told.{mapped, chained, cell_told, shape_told}

whole_lines-more : (l m : List ℕ) (more : List (List ℕ)) → whole_lines (l ∷ m ∷ more)
    ≡ option_map (λ ls. l ∷ ls) (whole_lines (m ∷ more))
whole_lines-more [] m more = refl
whole_lines-more (x ∷ l) m more = refl

-- lines that are ended are read again
lines_read : (ls : List (List ℕ)) → list_all (lacks 10) ls ≡ true → lines_of (flat_map ended_line ls) ≡ Some ls
lines_read [] h = refl
lines_read (l ∷ ls) h =
    let rest = flat_map ended_line ls in
    let cut : pieces 10 ((l ++ 10 ∷ []) ++ rest) ≡ l ∷ pieces 10 rest =
    ap (pieces 10) (append_assoc l (10 ∷ []) rest) ∙ pieces-ended 10 l rest
    (first_of_both (lacks 10 l) (list_all (lacks 10) ls) h) in
    let more : lines_of rest ≡ Some ls = lines_read ls (second_of_both (lacks 10 l) (list_all (lacks 10) ls) h) in
    ap whole_lines cut
    ∙ pieces-known 10 rest (λ found. whole_lines (l ∷ found)) (option_map (λ found. l ∷ found) (lines_of rest))
    (λ p ps e. whole_lines-more l p ps ∙ ap (λ found. option_map (λ left. l ∷ left) (whole_lines found)) (sym e))
    ∙ ap (option_map (λ found. l ∷ found)) more

-- lines that are read were so ended
lines_told : (ps ls : List (List ℕ)) → whole_lines ps ≡ Some ls → flat_map ended_line ls ≡ join_with_byte 10 ps
lines_told [] ls h = cc
lines_told ([] ∷ []) ls h = let e : ls ≡ [] = cc in ap (flat_map ended_line) e
lines_told ((x ∷ l) ∷ []) ls h = cc
lines_told (l ∷ m ∷ more) ls h =
    let made : List (List ℕ) → List (List ℕ) = λ left. l ∷ left in
    let split = mapped made (whole_lines (m ∷ more)) ls (sym (whole_lines-more l m more) ∙ h) in
    ap (flat_map ended_line) (sym split.became) ∙ append_assoc l (10 ∷ []) (flat_map ended_line split.value)
    ∙ ap (λ t. l ++ 10 ∷ t) (lines_told (m ∷ more) split.value split.was)

each_read : {A : Type 0} (f : List ℕ → Option A) (g : A → List ℕ) (p : A → Bool)
    → ((x : A) → p x ≡ true → f (g x) ≡ Some x)
    → (xs : List A) → list_all p xs ≡ true → each f (map g xs) ≡ Some xs
each_read f g p is [] h = refl
each_read f g p is (x ∷ xs) h =
    ap (λ found. option_and_then (λ a. option_map (λ more. a ∷ more) (each f (map g xs))) found)
    (is x (first_of_both (p x) (list_all p xs) h))
    ∙ ap (λ found. option_map (λ more. x ∷ more) found) (each_read f g p is xs (second_of_both (p x) (list_all p xs) h))

each_told : {A : Type 0} (f : List ℕ → Option A) (g : A → List ℕ) → ((l : List ℕ) (x : A) → f l ≡ Some x → g x ≡ l)
    → (ls : List (List ℕ)) (xs : List A) → each f ls ≡ Some xs → map g xs ≡ ls
each_told f g is [] xs h = let e : xs ≡ [] = cc in ap (map g) e
each_told f g is (l ∷ ls) xs h =
    let c = chained (λ a. option_map (λ more. a ∷ more) (each f ls)) (f l) xs h in
    let m = mapped (λ more. c.value ∷ more) (each f ls) xs c.became in
    ap (map g) (sym m.became) ∙ ap (λ found. found ∷ map g m.value) (is l c.value c.was)
    ∙ ap (λ found. l ∷ found) (each_told f g is ls m.value m.was)

flat_map-ended : {A : Type 0} (f g : A → List ℕ) → ((x : A) → f x ≡ ended_line (g x)) → (xs : List A)
    → flat_map f xs ≡ flat_map ended_line (map g xs)
flat_map-ended f g is [] = refl
flat_map-ended f g is (x ∷ xs) = ap (λ t. t ++ flat_map f xs) (is x)
    ∙ ap (λ t. ended_line (g x) ++ t) (flat_map-ended f g is xs)

lines_lack : {A : Type 0} (g : A → List ℕ) (p : A → Bool) → ((x : A) → p x ≡ true → lacks 10 (g x) ≡ true)
    → (xs : List A) → list_all p xs ≡ true
    → list_all (lacks 10) (map g xs) ≡ true
lines_lack g p is [] h = refl
lines_lack g p is (x ∷ xs) h =
    both (lacks 10 (g x)) (list_all (lacks 10) (map g xs)) (is x (first_of_both (p x) (list_all p xs) h))
    (lines_lack g p is xs (second_of_both (p x) (list_all p xs) h))

-- a list that is spelled line by line is read again
listed_read : {A : Type 0} (made : List A → Content) (f : List ℕ → Option A) (full : A → List ℕ) (g : A → List ℕ)
    (p : A → Bool)
    → ((x : A) → full x ≡ ended_line (g x)) → ((x : A) → p x ≡ true → f (g x) ≡ Some x)
    → ((x : A) → p x ≡ true → lacks 10 (g x) ≡ true)
    → (xs : List A) → list_all p xs ≡ true → option_and_then (λ ls. option_map made (each f ls))
    (lines_of (flat_map full xs)) ≡ Some (made xs)
listed_read made f full g p is read whole xs h =
    ap (λ bytes. option_and_then (λ ls. option_map made (each f ls)) (lines_of bytes)) (flat_map-ended full g is xs)
    ∙ ap (λ found. option_and_then (λ ls. option_map made (each f ls)) found)
    (lines_read (map g xs) (lines_lack g p whole xs h))
    ∙ ap (option_map made) (each_read f g p read xs h)

-- an entry of a table without its line feed
abbrev entry_line : Cell × List ℕ → List ℕ
entry_line e = cell_bytes e.0 ++ 32 ∷ e.1

entry_ended : (e : Cell × List ℕ) → entry_bytes e ≡ ended_line (entry_line e)
entry_ended e = sym (append_assoc (cell_bytes e.0) (32 ∷ e.1) (10 ∷ []))

small_row : (c : Cell) → is_cell c ≡ true → c.row < 2 ^ 32
small_row c h =
    let last : c.row ≤ 99 = le_told c.row 99
    (second_of_both (nat_lt c.column 26 && nat_le 1 c.row) (nat_le c.row 99) h) in omega arith

entry_read : (e : Cell × List ℕ) → is_entry e ≡ true → entry_in (words (entry_line e)) ≡ Some e
entry_read e h =
    let small = small_row e.0 (first_of_both (is_cell e.0) (is_cell_text e.1) h) in
    ap entry_in (pieces-ended 32 (cell_bytes e.0) e.1 (cell_lacks 32 e.0 (omega arith) small))
    ∙ entry_in-rest (cell_bytes e.0) e.1
    ∙ ap (λ (found : Option Cell). option_map (λ cell. (cell, e.1)) found) (cell_of-cell_bytes e.0 small)

printable_lacks : (text : List ℕ) → list_all is_printable text ≡ true → lacks 10 text ≡ true
printable_lacks [] h = refl
printable_lacks (x ∷ xs) h =
    let low : 32 ≤ x =
    le_told 32 x (first_of_both (nat_le 32 x) (nat_le x 126)
    (first_of_both (is_printable x) (list_all is_printable xs) h)) in
    both (not (nat_eq x 10)) (lacks 10 xs) (ap not (ne_eqb x 10 (λ e. omega arith)))
    (printable_lacks xs (second_of_both (is_printable x) (list_all is_printable xs) h))

joined_lacks : (b : ℕ) (xs ys : List ℕ) → lacks b xs ≡ true → lacks b ys ≡ true → lacks b (xs ++ ys) ≡ true
joined_lacks b xs ys h k = list_all-append (λ x. not (nat_eq x b)) xs ys ∙ both (lacks b xs) (lacks b ys) h k

entry_lacks : (e : Cell × List ℕ) → is_entry e ≡ true → lacks 10 (entry_line e) ≡ true
entry_lacks e h =
    let small = small_row e.0 (first_of_both (is_cell e.0) (is_cell_text e.1) h) in
    let text = second_of_both (nat_le 1 (length e.1) && nat_le (length e.1) CELL_SIZE) (list_all is_printable e.1)
    (second_of_both (is_cell e.0) (is_cell_text e.1) h) in
    joined_lacks 10 (cell_bytes e.0) (32 ∷ e.1) (cell_lacks 10 e.0 (omega arith) small) (printable_lacks e.1 text)

table_read : (es : List (Cell × List ℕ)) → list_all is_entry es ≡ true → content_of Table (stream_bytes (table es))
    ≡ Some (table es)
table_read es h = listed_read table (λ l. entry_in (words l)) entry_bytes entry_line is_entry entry_ended entry_read
    entry_lacks es h

small_99 : (n : ℕ) → nat_le n 99 ≡ true → n < 2 ^ 32
small_99 n h = let le : n ≤ 99 = le_told n 99 h in omega arith

small_100 : (n : ℕ) → nat_le n 100 ≡ true → n < 2 ^ 32
small_100 n h = let le : n ≤ 100 = le_told n 100 h in omega arith

small_shape : (s : Shape) → is_shape s ≡ true → IsSmallShape s
small_shape (box x y w h) s =
    let a = nat_le x 99 in
    let b = nat_le y 99 in
    let c = nat_le 1 w in
    let d = nat_le w 100 in
    let e = nat_le 1 h in
    let f = nat_le h 100 in
    let abcde = first_of_both (a && b && c && d && e) f s in
    let abcd = first_of_both (a && b && c && d) e abcde in
    let abc = first_of_both (a && b && c) d abcd in
    let ab = first_of_both (a && b) c abc in (
      small_99 x (first_of_both a b ab),
      small_99 y (second_of_both a b ab),
      small_100 w
          (second_of_both (a && b && c) d abcd),
      small_100 h (second_of_both (a && b && c && d && e) f s),
    )
small_shape (line x y d n) s =
    let a = nat_le x 99 in
    let b = nat_le y 99 in
    let c = nat_le 1 n in
    let e = nat_le n 100 in
    let abc = first_of_both (a && b && c) e s in
    let ab = first_of_both (a && b) c abc in (
      small_99 x (first_of_both a b ab),
      small_99 y (second_of_both a b ab),
      small_100 n
          (second_of_both (a && b && c) e s),
    )

shape_read : (s : Shape) → is_shape s ≡ true → shape_in (words (shape_bytes s)) ≡ Some s
shape_read (box x y w h) s = let small = small_shape (box x y w h) s in ap shape_in (box_words x y w h small)
    ∙ box_read x y w h small
shape_read (line x y d n) s = let small = small_shape (line x y d n) s in
    ap shape_in (line_words x y d n small) ∙ line_read x y d n small

spaced_lack : (ws : List (List ℕ)) → list_all (lacks 10) ws ≡ true → lacks 10 (spaced ws) ≡ true
spaced_lack [] h = refl
spaced_lack (w ∷ ws) h =
    joined_lacks 10 w (spaced ws) (first_of_both (lacks 10 w) (list_all (lacks 10) ws) h)
    (spaced_lack ws (second_of_both (lacks 10 w) (list_all (lacks 10) ws) h))

four_whole : (a b c d : List ℕ) → lacks 10 a ≡ true → lacks 10 b ≡ true → lacks 10 c ≡ true → lacks 10 d ≡ true
    → lacks 10 (spaced (a ∷ b ∷ c ∷ d ∷ [])) ≡ true
four_whole a b c d ha hb hc hd =
    spaced_lack (a ∷ b ∷ c ∷ d ∷ [])
    (both (lacks 10 a) (lacks 10 b && (lacks 10 c && (lacks 10 d && true))) ha
    (both (lacks 10 b) (lacks 10 c && (lacks 10 d && true)) hb
    (both (lacks 10 c) (lacks 10 d && true) hc (both (lacks 10 d) true hd refl))))

direction_whole : (d : Direction) → lacks 10 (direction_byte d ∷ []) ≡ true
direction_whole across = refl
direction_whole down = refl

shape_lacks : (s : Shape) → is_shape s ≡ true → lacks 10 (shape_bytes s) ≡ true
shape_lacks (box x y w h) s =
    let small = small_shape (box x y w h) s in
    four_whole (decimal x) (decimal y) (decimal w) (decimal h) (decimal_lacks 10 x (omega arith) small.0)
    (decimal_lacks 10 y (omega arith) small.1)
    (decimal_lacks 10 w (omega arith) small.2) (decimal_lacks 10 h (omega arith) small.3)
shape_lacks (line x y d n) s =
    let small = small_shape (line x y d n) s in
    four_whole (decimal x) (decimal y) (direction_byte d ∷ []) (decimal n)
    (decimal_lacks 10 x (omega arith) small.0) (decimal_lacks 10 y (omega arith) small.1)
    (direction_whole d) (decimal_lacks 10 n (omega arith) small.2)

drawing_read : (ss : List Shape) → list_all is_shape ss ≡ true → content_of Drawing (stream_bytes (drawing ss))
    ≡ Some (drawing ss)
drawing_read ss h = listed_read drawing (λ l. shape_in (words l)) shape_line shape_bytes is_shape (λ s. refl)
    shape_read shape_lacks ss h

-- what is stored is read again
pub content_read : (c : Content) → is_content c ≡ true → content_of (kind_of c) (stream_bytes c) ≡ Some c
content_read (note text) h = refl
content_read (table es) h =
    table_read es (second_of_both (is_rising (map (λ e. cell_place e.0) es)) (list_all is_entry es) h)
content_read (drawing ss) h =
    drawing_read ss (second_of_both (nat_le (length ss) DRAWING_SIZE) (list_all is_shape ss) h)

found_alone : (c : Content) → sole_bytes (stream_name (empty (kind_of c))) (stored c) ≡ Some (stream_bytes c)
found_alone (note text) = refl
found_alone (table es) = refl
found_alone (drawing ss) = refl

pub stored_is_loaded : StoredIsLoaded
stored_is_loaded c h =
    ap (λ found. load_told (option_and_then (content_of (kind_of c)) found)) (found_alone c)
    ∙ ap load_told (content_read c h)
    ∙ ap (λ (b : Bool). cond {A = Result Content EmbedFault} b (Ok c) (Err BadContent)) h

entry_told : (ws : List (List ℕ)) (e : Cell × List ℕ) → entry_in ws ≡ Some e → entry_line e ≡ text_of ws
entry_told [] e h = cc
entry_told (c ∷ []) e h = cc
entry_told (c ∷ t ∷ ts) e h =
    let made : Cell → Cell × List ℕ = λ cell. (cell, text_of (t ∷ ts)) in
    let m = mapped made (cell_of c) e h in
    ap entry_line (sym m.became) ∙ ap (λ w. w ++ 32 ∷ text_of (t ∷ ts)) (cell_told c m.value m.was)

entry_was : (l : List ℕ) (e : Cell × List ℕ) → entry_in (words l) ≡ Some e → entry_line e ≡ l
entry_was l e h = entry_told (words l) e h ∙ join_with_byte-slice_split 32 l

shape_in_told : (ws : List (List ℕ)) (s : Shape) → shape_in ws ≡ Some s → shape_bytes s ≡ text_of ws
shape_in_told ((c ∷ []) ∷ ws) s h = shape_told c ws s h
shape_in_told ws s h = cc

shape_was : (l : List ℕ) (s : Shape) → shape_in (words l) ≡ Some s → shape_bytes s ≡ l
shape_was l s h = shape_in_told (words l) s h ∙ join_with_byte-slice_split 32 l

listed_told : {A : Type 0} (made : List A → Content) (f : List ℕ → Option A) (full : A → List ℕ) (g : A → List ℕ)
    → ((x : A) → full x ≡ ended_line (g x))
    → ((l : List ℕ) (x : A) → f l ≡ Some x → g x ≡ l) → (bytes : List ℕ) (c : Content)
    → option_and_then (λ ls. option_map made (each f ls)) (lines_of bytes) ≡ Some c → (xs : List A) × (made xs ≡ c)
    × (flat_map full xs ≡ bytes)
listed_told made f full g is told bytes c h =
    let lines = chained (λ ls. option_map made (each f ls)) (lines_of bytes) c h in
    let all = mapped made (each f lines.value) c lines.became in (
      all.value,
      all.became,
      flat_map-ended full g is all.value ∙ ap (flat_map ended_line) (each_told f g told lines.value all.value all.was)
          ∙ lines_told (pieces 10 bytes) lines.value lines.was ∙ join_with_byte-slice_split 10 bytes,
    )

-- what is read was so stored
pub content_told : (k : Kind) (bytes : List ℕ) (c : Content) → content_of k bytes ≡ Some c → (kind_of c ≡ k)
    × (stream_bytes c ≡ bytes)
content_told Note bytes c h = let e : c ≡ note bytes = cc in (ap kind_of e, ap stream_bytes e)
content_told Table bytes c h =
    let t = listed_told table (λ l. entry_in (words l)) entry_bytes entry_line entry_ended entry_was bytes c h in
    (ap kind_of (sym t.1), ap stream_bytes (sym t.1) ∙ t.2)
content_told Drawing bytes c h =
    let t = listed_told drawing (λ l. shape_in (words l)) shape_line shape_bytes (λ s. refl) shape_was bytes c h in
    (ap kind_of (sym t.1), ap stream_bytes (sym t.1) ∙ t.2)

loaded_told : (o : Option Content) (c : Content) → load_told o ≡ Ok c → (o ≡ Some c) × (is_content c ≡ true)
loaded_told None c h = cc
loaded_told (Some d) c h =
    told_cond (λ (told : Result Content EmbedFault). told ≡ Ok c → (Some d ≡ Some c) × (is_content c ≡ true))
    (is_content d) (Ok d) (Err BadContent)
    (λ sound told. let e : d ≡ c = cc in (ap (λ x. Some x) e, ap is_content (sym e) ∙ sound))
    (λ other told. cc)
    h

pub loaded_was_stored : LoadedWasStored
loaded_was_stored k s c h =
    let name = stream_name (empty k) in
    told_cond (λ (found : Option (List ℕ)). load_told (option_and_then (content_of k) found) ≡ Ok c
    → (kind_of c ≡ k) × (is_content c ≡ true) × (stream_bytes c ≡ s.bytes))
    (key_eq (key s.name) (key name)) (Some s.bytes) None
    (λ same told.
    let t = loaded_told (content_of k s.bytes) c told in
    let r = content_told k s.bytes c t.0 in
    (r.0, t.1, r.1))
    (λ other told. cc)
    h
