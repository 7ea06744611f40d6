-- A table's entries as they are kept.
use Rattle.std.proofs.Common.{arith, ◌≡◌, ◌≤◌, ◌<◌, ◌+◌, ◌*◌, ◌/◌, ◌%◌, ◌&&◌, ◌||◌, ◌++◌, ◌∙◌, ℕ, Bool, true, false}
use Rattle.std.proofs.Common.{cond, nat_lt, nat_le, nat_eq, List, [], ◌∷◌, length, refl, ap, sym}
use Rattle.std.specs.Prelude.{Option, Some, None, Result, Ok, Err, filter, not}
use Rattle.std.specs.Cmp.{nat_cmp_is, unsigned_tied}
use Rattle.std.specs.Global.{Vec}
use Rattle.std.specs.List.{list_all, list_any}
use Rattle.std.specs.Map.{lookup, remove_entry}
use Rattle.std.specs.Option.{is_some}
use Rattle.std.specs.Ordering.{nat_cmp, match_ordering}
use Rattle.std.specs.declared.cmp.Ordering.TheVariants.{Less, Equal, Greater}
use Rattle.std.specs.BTreeMap as tree
use Rattle.std.specs.BTreeMap.{insert_entry}
use Rattle.std.proofs.lemmas.Bool.{ne_eqb}
use Rattle.object_core.specs.Content.{Cell, Content, table, is_cell, is_cell_text, is_content, is_entry, is_rising}
use Rattle.object_core.specs.Content.{cell_place, CELL_SIZE}
use Rattle.object_state.specs.Printable.{is_printable}
use Rattle.object_core.specs.Edits.{set, clear, edited, with_cell, within, without_cell, is_at}
use Rattle.object_core.specs.declared.fault.EmbedFault.{EmbedFault}
use Rattle.object_core.specs.declared.fault.EmbedFault.TheVariants.{BadEdit, TooBig}
use Rattle.object_core.proofs.Staying.{places, table-set, table-clear}
use Rattle.text_words.proofs.Passing.{both, first_of_both, second_of_both, told_cond, lt_told, le_told, le_passes}
use Rattle.text_words.proofs.Passing.{eq_told}
use Rattle.object_kinds.specs.Placed.{cell_at, entry_at, entries_at, place_of}

abbrev pub Entries : Type 0
Entries = List (ℕ × Vec ℕ)

abbrev pub Listing : Type 0
Listing = List (Cell × List ℕ)

pub place-at : (p : ℕ) → cell_place (cell_at p) ≡ p
place-at p = omega arith

pub at-place : (c : Cell) → is_cell c ≡ true → cell_at (cell_place c) ≡ c
at-place c h =
    let narrow : c.column < 26 = lt_told c.column 26
    (first_of_both (nat_lt c.column 26) (nat_le 1 c.row)
    (first_of_both (nat_lt c.column 26 && nat_le 1 c.row) (nat_le c.row 99) h)) in
    let column : (26 * c.row + c.column) % 26 ≡ c.column = omega arith in
    let row : (26 * c.row + c.column) / 26 ≡ c.row = omega arith in
    λ t. record { column = column t; row = row t }

-- one of three, as an order tells
by_order : (a b : Bool) (x y z : Listing) (u v w : Entries) → x ≡ entries_at u → (b ≡ true → y ≡ entries_at v)
    → z ≡ entries_at w
    → cond a x (cond b y z) ≡ entries_at (match_ordering (cond a Less (cond b Equal Greater)) u v w)
by_order true b x y z u v w less same more = less
by_order false true x y z u v w less same more = same refl
by_order false false x y z u v w less same more = more

-- a cell is set as an entry is put
pub with-entry : (c : Cell) (text : Vec ℕ) (es : Entries) → cell_at (cell_place c) ≡ c
    → with_cell c text.items (entries_at es) ≡ entries_at (insert_entry nat_cmp es (cell_place c) text)
with-entry c text [] at = ap (λ k. (k, text.items) ∷ []) (sym at)
with-entry c text (e ∷ es) at =
    let p = cell_place c in
    let rest = with_cell c text.items (entries_at es) in
    let front : Listing = (c, text.items) ∷ entry_at e ∷ entries_at es in
    ap (λ q. cond (nat_lt p q) front (cond (nat_eq p q) ((c, text.items) ∷ entries_at es) (entry_at e ∷ rest)))
    (place-at e.0)
    ∙ by_order (nat_lt p e.0) (nat_eq p e.0) front ((c, text.items) ∷ entries_at es) (entry_at e ∷ rest)
    ((p, text) ∷ e ∷ es) ((e.0, text) ∷ es) (e ∷ insert_entry nat_cmp es p text)
    (ap (λ k. (k, text.items) ∷ entry_at e ∷ entries_at es) (sym at))
    (λ same. ap (λ k. (k, text.items) ∷ entries_at es) (sym at ∙ ap cell_at (eq_told p e.0 same)))
    (ap (λ r. entry_at e ∷ r) (with-entry c text es at))

-- the same test, of an entry as it is kept
test-is : (c : Cell) (e : ℕ × Vec ℕ) → is_at c (entry_at e) ≡ tree.is_at (nat_cmp (cell_place c)) e.0
test-is c e = ap (nat_eq (cell_place c)) (place-at e.0) ∙ sym (unsigned_tied (cell_place c) e.0)

-- a cell is set where there is an entry
pub any-entry : (c : Cell) (es : Entries) → list_any (is_at c) (entries_at es)
    ≡ is_some (lookup (tree.is_at (nat_cmp (cell_place c))) es)
any-entry c [] = refl
any-entry c (e ∷ es) =
    let test = tree.is_at (nat_cmp (cell_place c)) e.0 in
    let found = lookup (tree.is_at (nat_cmp (cell_place c))) es in
    let by_test : (b : Bool) → (b || is_some found) ≡ is_some (cond b (Some e.1) found) =
    λ b. elim b as (λ t. (t || is_some found) ≡ is_some (cond t (Some e.1) found)) [
      | true ↦ refl
      | false ↦
          refl
    ] in
    ap (λ b. b || list_any (is_at c) (entries_at es)) (test-is c e) ∙ ap (λ b. test || b) (any-entry c es)
    ∙ by_test test

-- no other entry is of the cell
others : (c : Cell) (n : ℕ) (es : Entries) → cell_place c ≤ n → is_rising (n ∷ places (entries_at es)) ≡ true
    → filter (λ e. not (is_at c e)) (entries_at es) ≡ entries_at es
others c n [] h r = refl
others c n (e ∷ es) h r =
    let m = cell_place (cell_at e.0) in
    let more : n < m = lt_told n m (first_of_both (nat_lt n m) (is_rising (places (entries_at (e ∷ es)))) r) in
    let left = filter (λ x. not (is_at c x)) (entries_at es) in
    let differs : (cell_place c ≡ m → ⊥) = λ same. omega arith in
    ap (λ b. cond (not b) (entry_at e ∷ left) left) (ne_eqb (cell_place c) m differs)
    ∙ ap (λ l. entry_at e ∷ l)
    (others c m es (omega arith) (second_of_both (nat_lt n m) (is_rising (places (entries_at (e ∷ es)))) r))

rising-rest : (n : ℕ) (ns : List ℕ) → is_rising (n ∷ ns) ≡ true → is_rising ns ≡ true
rising-rest n [] r = refl
rising-rest n (m ∷ ns) r = second_of_both (nat_lt n m) (is_rising (m ∷ ns)) r

by_test : (b : Bool) (x y : Listing) (u v : Entries) → (b ≡ true → y ≡ entries_at u) → x ≡ entries_at v
    → cond (not b) x y ≡ entries_at (cond b u v)
by_test true x y u v goes stays = goes refl
by_test false x y u v goes stays = stays

-- a cell is cleared as its entry is removed
pub without-entry : (c : Cell) (es : Entries) → is_rising (places (entries_at es)) ≡ true
    → without_cell c (entries_at es) ≡ entries_at (remove_entry (tree.is_at (nat_cmp (cell_place c))) es)
without-entry c [] r = refl
without-entry c (e ∷ es) r =
    let test = tree.is_at (nat_cmp (cell_place c)) e.0 in
    let left = without_cell c (entries_at es) in
    let m = cell_place (cell_at e.0) in
    ap (λ b. cond (not b) (entry_at e ∷ left) left) (test-is c e)
    ∙ by_test test (entry_at e ∷ left) left es (e ∷ remove_entry (tree.is_at (nat_cmp (cell_place c))) es)
    (λ same.
    let at : cell_place c ≡ m = eq_told (cell_place c) m (test-is c e ∙ same) in
    others c m es (omega arith) r)
    (ap (λ l. entry_at e ∷ l) (without-entry c es (rising-rest m (places (entries_at es)) r)))

-- an entry behind all others is put to the end
pub put-last : (k last : ℕ) (v : Vec ℕ) (es : Entries) → last < k → list_all (λ e. nat_le e.0 last) es ≡ true
    → insert_entry nat_cmp es k v ≡ es ++ (k, v) ∷ []
put-last k last v [] h all = refl
put-last k last v (e ∷ es) h all =
    let le : e.0 ≤ last = le_told e.0 last (first_of_both (nat_le e.0 last) (list_all (λ x. nat_le x.0 last) es) all) in
    let less : e.0 < k = omega arith in
    let rest = insert_entry nat_cmp es k v in
    ap (λ o. match_ordering o ((k, v) ∷ e ∷ es) ((e.0, v) ∷ es) (e ∷ rest)) (sym (nat_cmp_is k e.0 Greater less))
    ∙ ap (λ l. e ∷ l)
    (put-last k last v es h (second_of_both (nat_le e.0 last) (list_all (λ x. nat_le x.0 last) es) all))

pub record IsPlaced (p : ℕ) (c : Cell) : Type 0 where
  pub within : is_cell c ≡ true
  pub place : cell_place c ≡ p

-- a place is that of a cell of a table
pub placed : (p : ℕ) (c : Cell) → Some p ≡ place_of c → IsPlaced p c
placed p c h =
    told_cond (λ (told : Option ℕ). Some p ≡ told → IsPlaced p c) (is_cell c) (Some (cell_place c)) None
    (λ within told. let same : cell_place c ≡ p = cc in record { within = within; place = same })
    (λ outside told. cc)
    h

pub cell-placed : (p : ℕ) (c : Cell) → Some p ≡ place_of c → cell_at p ≡ c
cell-placed p c h = let is = placed p c h in ap cell_at (sym is.place) ∙ at-place c is.within

content-rising : (es : Entries) → is_content (table (entries_at es)) ≡ true → is_rising (places (entries_at es)) ≡ true
content-rising es h = first_of_both (is_rising (places (entries_at es))) (list_all is_entry (entries_at es)) h

removed : (p : ℕ) (c : Cell) (es : Entries) → Some p ≡ place_of c → is_content (table (entries_at es)) ≡ true
    → without_cell c (entries_at es) ≡ entries_at (remove_entry (tree.is_at (nat_cmp p)) es)
removed p c es at h =
    let is = placed p c at in
    without-entry c es (content-rising es h) ∙ ap (λ q. entries_at (remove_entry (tree.is_at (nat_cmp q)) es)) is.place

there : (p : ℕ) (c : Cell) (es : Entries) → Some p ≡ place_of c → (is_cell c && list_any (is_at c) (entries_at es))
    ≡ is_some (lookup (tree.is_at (nat_cmp p)) es)
there p c es at =
    let is = placed p c at in
    ap (λ b. b && list_any (is_at c) (entries_at es)) is.within ∙ any-entry c es
    ∙ ap (λ q. is_some (lookup (tree.is_at (nat_cmp q)) es)) is.place

-- a table stays one where an entry is removed
pub clear-stays : (p : ℕ) (c : Cell) (es : Entries) → Some p ≡ place_of c → is_content (table (entries_at es)) ≡ true
    → is_content (table (entries_at (remove_entry (tree.is_at (nat_cmp p)) es))) ≡ true
clear-stays p c es at h = ap (λ l. is_content (table l)) (sym (removed p c es at h)) ∙ table-clear c (entries_at es) h

-- a cell that is set is cleared
pub cleared : (p : ℕ) (c : Cell) (es : Entries) (v : Vec ℕ) → Some p ≡ place_of c
    → is_content (table (entries_at es)) ≡ true
    → lookup (tree.is_at (nat_cmp p)) es ≡ Some v
    → edited (clear c) (table (entries_at es)) ≡ Ok (table (entries_at (remove_entry (tree.is_at (nat_cmp p)) es)))
cleared p c es v at h found =
    ap (λ b. within b true (table (without_cell c (entries_at es)))) (there p c es at ∙ ap is_some found)
    ∙ ap (λ l. Ok (table l)) (removed p c es at h)

-- a cell that isn't set isn't
pub not_cleared : (p : ℕ) (c : Cell) (es : Entries) → Some p ≡ place_of c → lookup (tree.is_at (nat_cmp p)) es ≡ None
    → edited (clear c) (table (entries_at es)) ≡ Err BadEdit
not_cleared p c es at none = ap (λ b. within b true (table (without_cell c (entries_at es))))
    (there p c es at ∙ ap is_some none)

put : (p : ℕ) (c : Cell) (text : List ℕ) (v : Vec ℕ) (es : Entries) → Some p ≡ place_of c → v.items ≡ text
    → with_cell c text (entries_at es) ≡ entries_at (insert_entry nat_cmp es p v)
put p c text v es at same =
    let is = placed p c at in
    ap (λ t. with_cell c t (entries_at es)) (sym same) ∙ with-entry c v es (at-place c is.within)
    ∙ ap (λ q. entries_at (insert_entry nat_cmp es q v)) is.place

-- a table stays one where an entry is put
pub set-stays : (p : ℕ) (c : Cell) (text : List ℕ) (v : Vec ℕ) (es : Entries) → Some p ≡ place_of c → v.items ≡ text
    → 1 ≤ length text → length text ≤ CELL_SIZE → list_all is_printable text ≡ true
    → is_content (table (entries_at es)) ≡ true
    → is_content (table (entries_at (insert_entry nat_cmp es p v))) ≡ true
set-stays p c text v es at same some fits printable h =
    let is = placed p c at in
    let entry : is_entry (c, text) ≡ true =
    both (is_cell c) (is_cell_text text) is.within
    (both (nat_le 1 (length text) && nat_le (length text) CELL_SIZE) (list_all is_printable text)
    (both (nat_le 1 (length text)) (nat_le (length text) CELL_SIZE) (le_passes 1 (length text) some)
    (le_passes (length text) CELL_SIZE fits)) printable) in
    ap (λ l. is_content (table l)) (sym (put p c text v es at same)) ∙ table-set c text (entries_at es) entry h

-- what an edit of a cell of a table asks for
pub asked : (p : ℕ) (c : Cell) (text : List ℕ) → Some p ≡ place_of c → 1 ≤ length text
    → list_all is_printable text ≡ true
    → (is_cell c && nat_le 1 (length text) && list_all is_printable text) ≡ true
asked p c text at some printable =
    let is = placed p c at in
    both (is_cell c && nat_le 1 (length text)) (list_all is_printable text)
    (both (is_cell c) (nat_le 1 (length text)) is.within (le_passes 1 (length text) some)) printable

-- the cell is set
pub was_set : (p : ℕ) (c : Cell) (text : List ℕ) (v : Vec ℕ) (es : Entries) → Some p ≡ place_of c → v.items ≡ text
    → 1 ≤ length text → length text ≤ CELL_SIZE → list_all is_printable text ≡ true
    → edited (set c text) (table (entries_at es)) ≡ Ok (table (entries_at (insert_entry nat_cmp es p v)))
was_set p c text v es at same some fits printable =
    ap (λ b. within b (nat_le (length text) CELL_SIZE) (table (with_cell c text (entries_at es))))
    (asked p c text at some printable)
    ∙ ap (λ (b : Bool). cond {A = Result Content EmbedFault} b (Ok (table (with_cell c text (entries_at es))))
    (Err TooBig)) (le_passes (length text) CELL_SIZE fits)
    ∙ ap (λ l. Ok (table l)) (put p c text v es at same)
