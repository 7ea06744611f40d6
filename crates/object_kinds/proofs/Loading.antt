-- Reading a table's entries.
use Rattle.std.proofs.Common.{arith, ◌≡◌, ◌≤◌, ◌<◌, ◌&&◌, ◌++◌, ◌∙◌, ℕ, Bool, true, false, cond, nat_lt, nat_le, List}
use Rattle.std.proofs.Common.{[], ◌∷◌, length, refl, ap, sym, subst, append_assoc}
use Rattle.std.specs.BTreeMap.{insert_entry}
use Rattle.std.specs.Global.{Vec}
use Rattle.std.specs.Option.{is_some}
use Rattle.std.specs.Ordering.{nat_cmp}
use Rattle.std.proofs.lemmas.List.{map-append}
use Rattle.std.proofs.lemmas.List.Folds.{list_all-append}
use Rattle.std.specs.Prelude.{Option, Some, None, Result, Ok, Err, option_map, option_and_then}
use Rattle.std.specs.List.{join_with_byte, list_all}
use Rattle.std.proofs.lemmas.List.Splits.{join_with_byte-slice_split}
use Rattle.object_core.specs.Content.{Cell, Content, table, is_content, is_entry, is_cell, is_cell_text, is_rising}
use Rattle.object_core.specs.Content.{cell_place}
use Rattle.object_core.specs.Kinds.{Table}
use Rattle.object_core.specs.Objects.{load_told}
use Rattle.object_core.specs.Reading.{content_of, each, entry_in, lines_of, whole_lines}
use Rattle.text_words.specs.Words.{pieces, words}
use Rattle.object_core.specs.declared.fault.EmbedFault.{EmbedFault}
use Rattle.object_core.specs.declared.fault.EmbedFault.TheVariants.{BadContent}
use Rattle.text_words.proofs.Cuts.{pieces-known}
use Rattle.object_core.proofs.Staying.{places}
use Rattle.text_words.proofs.Passing.{both, first_of_both, second_of_both, told_cond, lt_passes, lt_told, le_passes}
use Rattle.text_words.proofs.Passing.{le_told}
use Rattle.object_kinds.specs.Listed.{behind, entries_of, sound}
use Rattle.object_kinds.specs.Placed.{cell_at, entry_at, entries_at, place_of}
use Rattle.object_kinds.proofs.Kept.{Entries, Listing, placed, cell-placed, place-at, put-last}

whole_lines-more : (l m : List ℕ) (more : List (List ℕ)) → whole_lines (l ∷ m ∷ more)
    ≡ option_map (λ ls. l ∷ ls) (whole_lines (m ∷ more))
whole_lines-more [] m more = refl
whole_lines-more (x ∷ l) m more = refl

abbrev read_in : List ℕ → Option (Cell × List ℕ)
read_in l = entry_in (words l)

-- the first line, and the others
lines-cut : (bytes l rest : List ℕ) → pieces 10 bytes ≡ l ∷ pieces 10 rest
    → lines_of bytes ≡ option_map (λ ls. l ∷ ls) (lines_of rest)
lines-cut bytes l rest cut =
    ap whole_lines cut
    ∙ pieces-known 10 rest (λ found. whole_lines (l ∷ found)) (option_map (λ found. l ∷ found) (lines_of rest))
    (λ p ps e. whole_lines-more l p ps ∙ ap (λ found. option_map (λ left. l ∷ left) (whole_lines found)) (sym e))

each-first : (l : List ℕ) (o : Option (List (List ℕ))) (e : Cell × List ℕ) → read_in l ≡ Some e
    → option_and_then (each read_in) (option_map (λ ls. l ∷ ls) o) ≡ option_map (λ es. e ∷ es)
    (option_and_then (each read_in) o)
each-first l None e h = refl
each-first l (Some ls) e h = ap (option_and_then (λ a. option_map (λ more. a ∷ more) (each read_in ls))) h

each-bad : (l : List ℕ) (o : Option (List (List ℕ))) → read_in l ≡ None
    → option_and_then (each read_in) (option_map (λ ls. l ∷ ls) o) ≡ None
each-bad l None h = refl
each-bad l (Some ls) h = ap (option_and_then (λ a. option_map (λ more. a ∷ more) (each read_in ls))) h

entries-first : (bytes l rest : List ℕ) (e : Cell × List ℕ) → pieces 10 bytes ≡ l ∷ pieces 10 rest → read_in l ≡ Some e
    → entries_of bytes ≡ option_map (λ es. e ∷ es) (entries_of rest)
entries-first bytes l rest e cut h = ap (option_and_then (each read_in)) (lines-cut bytes l rest cut)
    ∙ each-first l (lines_of rest) e h

entries-bad : (bytes l rest : List ℕ) → pieces 10 bytes ≡ l ∷ pieces 10 rest → read_in l ≡ None
    → entries_of bytes ≡ None
entries-bad bytes l rest cut h = ap (option_and_then (each read_in)) (lines-cut bytes l rest cut)
    ∙ each-bad l (lines_of rest) h

some_line : (l : List ℕ) → 0 < length l → whole_lines (l ∷ []) ≡ None
some_line [] h = absurd (omega arith)
some_line (x ∷ l) h = refl

-- no line feed ends the first line
pub entries-last : (place : ℕ) (bytes l : List ℕ) → 0 < length bytes → pieces 10 bytes ≡ l ∷ []
    → behind place (entries_of bytes) ≡ None
entries-last place bytes l h cut =
    let whole : l ≡ bytes = sym (ap (join_with_byte 10) cut) ∙ join_with_byte-slice_split 10 bytes in
    let P : List ℕ → Type 0 = λ t. 0 < length t in
    ap (λ o. behind place (option_and_then (each read_in) o)) (ap whole_lines cut ∙ some_line l (subst P (sym whole) h))

behind-unsound : (place : ℕ) (e : Cell × List ℕ) (o : Option Listing) → is_entry e ≡ false
    → behind place (option_map (λ es. e ∷ es) o) ≡ None
behind-unsound place e None h = refl
behind-unsound place e (Some es) h =
    told_cond (λ (told : Option Listing). told ≡ None)
    (is_rising (place ∷ places (e ∷ es)) && list_all is_entry (e ∷ es)) (Some (e ∷ es)) None
    (λ passes. let yes = first_of_both (is_entry e) (list_all is_entry es)
    (second_of_both (is_rising (place ∷ places (e ∷ es))) (list_all is_entry (e ∷ es)) passes) in cc)
    (λ fails. refl)

behind-early : (place : ℕ) (e : Cell × List ℕ) (o : Option Listing) → cell_place e.0 ≤ place
    → behind place (option_map (λ es. e ∷ es) o) ≡ None
behind-early place e None h = refl
behind-early place e (Some es) h =
    told_cond (λ (told : Option Listing). told ≡ None)
    (is_rising (place ∷ places (e ∷ es)) && list_all is_entry (e ∷ es)) (Some (e ∷ es)) None
    (λ passes.
    let less : place < cell_place e.0 = lt_told place (cell_place e.0)
    (first_of_both (nat_lt place (cell_place e.0)) (is_rising (places (e ∷ es)))
    (first_of_both (is_rising (place ∷ places (e ∷ es))) (list_all is_entry (e ∷ es)) passes)) in
    absurd (omega arith))
    (λ fails. refl)

four : (a b c d : Bool) → a ≡ true → c ≡ true → ((a && b) && (c && d)) ≡ (b && d)
four true b true d s t = refl
four true b false d s t = cc
four false b c d s t = cc

behind-more : (place : ℕ) (e : Cell × List ℕ) (o : Option Listing) → is_entry e ≡ true → place < cell_place e.0
    → behind place (option_map (λ es. e ∷ es) o) ≡ option_map (λ es. e ∷ es) (behind (cell_place e.0) o)
behind-more place e None h less = refl
behind-more place e (Some es) h less =
    let b = is_rising (cell_place e.0 ∷ places es) in
    let d = list_all is_entry es in
    let split : (t : Bool) → cond t (Some (e ∷ es)) None ≡ option_map (λ more. e ∷ more) (cond t (Some es) None) =
    λ t. elim t as (λ t. cond t (Some (e ∷ es)) None ≡ option_map (λ more. e ∷ more) (cond t (Some es) None)) [
      | true ↦ refl
      | false ↦ refl
    ] in
    ap (λ (t : Bool). cond t (Some (e ∷ es)) None)
    (four (nat_lt place (cell_place e.0)) b (is_entry e) d (lt_passes place (cell_place e.0) less) h)
    ∙ split (b && d)

-- an entry that is read is sound
pub entry-sound : (p : ℕ) (c : Cell) (text : List ℕ) (o : Option (Cell × List ℕ)) → Some (c, text) ≡ o
    → Some p ≡ place_of c → is_cell_text text ≡ true
    → Some (cell_at p, text) ≡ sound o
entry-sound p c text o e at fits =
    let is = placed p c at in
    ap (λ k. Some (k, text)) (cell-placed p c at)
    ∙ sym (ap (λ (b : Bool). cond {A = Option (Cell × List ℕ)} b (Some (c, text)) None)
    (both (is_cell c) (is_cell_text text) is.within fits))
    ∙ ap sound e

-- one whose text is none of a cell isn't
pub text-unsound : (c : Cell) (text : List ℕ) (o : Option (Cell × List ℕ)) → Some (c, text) ≡ o
    → is_cell_text text ≡ false → None ≡ sound o
text-unsound c text o e wrong =
    told_cond (λ (told : Option (Cell × List ℕ)). None ≡ told) (is_entry (c, text)) (Some (c, text)) None
    (λ passes. let yes = second_of_both (is_cell c) (is_cell_text text) passes in cc)
    (λ fails. refl)
    ∙ ap sound e

record IsSound (o : Option (Cell × List ℕ)) (e : Cell × List ℕ) : Type 0 where
  pub was : o ≡ Some e
  pub is : is_entry e ≡ true

sound-told : (o : Option (Cell × List ℕ)) (e : Cell × List ℕ) → Some e ≡ sound o → IsSound o e
sound-told None e h = cc
sound-told (Some d) e h =
    told_cond (λ (told : Option (Cell × List ℕ)). Some e ≡ told → IsSound (Some d) e) (is_entry d) (Some d) None
    (λ passes told. let same : d ≡ e = cc in
    record { was = ap (λ x. Some x) same; is = ap is_entry (sym same) ∙ passes })
    (λ fails told. cc)
    h

-- no sound entry stands first
pub first-bad : (place : ℕ) (bytes l rest : List ℕ) → pieces 10 bytes ≡ l ∷ pieces 10 rest
    → None ≡ sound (entry_in (words l))
    → behind place (entries_of bytes) ≡ None
first-bad place bytes l rest cut wrong =
    let P : Option (Cell × List ℕ) → Type 0 = λ o. read_in l ≡ o → None ≡ sound o
    → behind place (entries_of bytes) ≡ None in
    let cases : (o : Option (Cell × List ℕ)) → P o = λ o. elim o as P [
      | None ↦ λ none bad. ap (behind place) (entries-bad bytes l rest cut none)
      | Some e ↦ λ some bad.
          let unsound : is_entry e ≡ false =
          told_cond (λ (told : Option (Cell × List ℕ)). None ≡ told → is_entry e ≡ false) (is_entry e) (Some e) None
          (λ passes told. cc) (λ fails told. fails) bad in
          ap (behind place) (entries-first bytes l rest e cut some) ∙ behind-unsound place e (entries_of rest) unsound
    ] in
    cases (read_in l) refl wrong

-- a sound entry stands first, but not behind the place
pub first-early : (place at : ℕ) (bytes l rest text : List ℕ) → pieces 10 bytes ≡ l ∷ pieces 10 rest
    → Some (cell_at at, text) ≡ sound (entry_in (words l))
    → at ≤ place → behind place (entries_of bytes) ≡ None
first-early place at bytes l rest text cut h early =
    let is = sound-told (read_in l) (cell_at at, text) h in
    let p : cell_place (cell_at at) ≡ at = place-at at in
    let le : cell_place (cell_at at) ≤ place = omega arith in
    ap (behind place) (entries-first bytes l rest (cell_at at, text) cut is.was)
    ∙ behind-early place (cell_at at, text) (entries_of rest) le

-- a sound entry stands first behind the place
pub first-read : (place at : ℕ) (bytes l rest text : List ℕ) → pieces 10 bytes ≡ l ∷ pieces 10 rest
    → Some (cell_at at, text) ≡ sound (entry_in (words l))
    → place < at → behind place (entries_of bytes) ≡ option_map (λ es. (cell_at at, text) ∷ es)
    (behind at (entries_of rest))
first-read place at bytes l rest text cut h late =
    let is = sound-told (read_in l) (cell_at at, text) h in
    let p : cell_place (cell_at at) ≡ at = place-at at in
    let lt : place < cell_place (cell_at at) = omega arith in
    ap (behind place) (entries-first bytes l rest (cell_at at, text) cut is.was)
    ∙ behind-more place (cell_at at, text) (entries_of rest) is.is lt
    ∙ ap (λ q. option_map (λ es. (cell_at at, text) ∷ es) (behind q (entries_of rest))) p

moved : (front : Listing) (e : Cell × List ℕ) (o : Option Listing)
    → option_map (λ es. (front ++ e ∷ []) ++ es) o ≡ option_map (λ es. front ++ es) (option_map (λ es. e ∷ es) o)
moved front e None = refl
moved front e (Some es) = ap (λ l. Some l) (append_assoc front (e ∷ []) es)

further_on : (cells : Entries) (place at : ℕ) → place < at → list_all (λ e. nat_le e.0 place) cells ≡ true
    → list_all (λ e. nat_le e.0 at) cells ≡ true
further_on [] place at h all = refl
further_on (e ∷ es) place at h all =
    let le : e.0 ≤ place = le_told e.0 place (first_of_both (nat_le e.0 place) (list_all (λ x. nat_le x.0 place) es)
    all) in
    both (nat_le e.0 at) (list_all (λ x. nat_le x.0 at) es) (le_passes e.0 at (omega arith))
    (further_on es place at h (second_of_both (nat_le e.0 place) (list_all (λ x. nat_le x.0 place) es) all))

-- an entry is put behind those that were read
pub collected : (cells new : Entries) (place at : ℕ) (text : List ℕ) (v : Vec ℕ) (o left whole : Option Listing)
    → list_all (λ e. nat_le e.0 place) cells ≡ true → place < at → v.items ≡ text
    → new ≡ insert_entry nat_cmp cells at v
    → o ≡ option_map (λ es. (cell_at at, text) ∷ es) left → option_map (λ es. entries_at cells ++ es) o ≡ whole
    → option_map (λ es. entries_at new ++ es) left ≡ whole
collected cells new place at text v o left whole all late same is was so_far =
    let put : new ≡ cells ++ (at, v) ∷ [] = is ∙ put-last at place v cells late all in
    let entries : entries_at new ≡ entries_at cells ++ (cell_at at, text) ∷ [] =
    ap entries_at put ∙ map-append entry_at cells ((at, v) ∷ [])
    ∙ ap (λ t. entries_at cells ++ (cell_at at, t) ∷ []) same in
    ap (λ l. option_map (λ es. l ++ es) left) entries ∙ moved (entries_at cells) (cell_at at, text) left
    ∙ ap (option_map (λ es. entries_at cells ++ es)) (sym was) ∙ so_far

pub collected-before : (cells new : Entries) (place at : ℕ) (v : Vec ℕ)
    → list_all (λ e. nat_le e.0 place) cells ≡ true → place < at → new ≡ insert_entry nat_cmp cells at v
    → list_all (λ e. nat_le e.0 at) new ≡ true
collected-before cells new place at v all late is =
    let put : new ≡ cells ++ (at, v) ∷ [] = is ∙ put-last at place v cells late all in
    ap (list_all (λ (e : ℕ × Vec ℕ). nat_le e.0 at)) put ∙ list_all-append (λ (e : ℕ × Vec ℕ). nat_le e.0 at) cells
    ((at, v) ∷ [])
    ∙ both (list_all (λ (e : ℕ × Vec ℕ). nat_le e.0 at) cells) (nat_le at at && true)
    (further_on cells place at late all) (both (nat_le at at) true (le_passes at at (omega arith)) refl)

content-entries : (o : Option (List (List ℕ)))
    → option_and_then (λ ls. option_map table (each read_in ls)) o ≡ option_map table (option_and_then (each read_in) o)
content-entries None = refl
content-entries (Some ls) = refl

from_zero : (ds : Listing) → is_rising (places ds) ≡ true → list_all is_entry ds ≡ true
    → is_rising (0 ∷ places ds) ≡ true
from_zero [] r h = refl
from_zero (e ∷ ds) r h =
    let row : 1 ≤ e.0.row = le_told 1 e.0.row
    (second_of_both (nat_lt e.0.column 26) (nat_le 1 e.0.row)
    (first_of_both (nat_lt e.0.column 26 && nat_le 1 e.0.row) (nat_le e.0.row 99)
    (first_of_both (is_cell e.0) (is_cell_text e.1) (first_of_both (is_entry e) (list_all is_entry ds) h)))) in
    both (nat_lt 0 (cell_place e.0)) (is_rising (places (e ∷ ds))) (lt_passes 0 (cell_place e.0) (omega arith)) r

not-loaded : (o : Option Listing) → is_some (behind 0 o) ≡ false → load_told (option_map table o) ≡ Err BadContent
not-loaded None h = refl
not-loaded (Some ds) h =
    told_cond (λ (told : Result Content EmbedFault). told ≡ Err BadContent) (is_content (table ds)) (Ok (table ds))
    (Err BadContent)
    (λ passes.
    let r = first_of_both (is_rising (places ds)) (list_all is_entry ds) passes in
    let all = second_of_both (is_rising (places ds)) (list_all is_entry ds) passes in
    let found : is_some (behind 0 (Some ds)) ≡ true =
    ap (λ b. is_some (cond b (Some ds) None))
    (both (is_rising (0 ∷ places ds)) (list_all is_entry ds) (from_zero ds r all) all) in
    cc)
    (λ fails. refl)

-- nothing is loaded from others
pub unloaded : (bytes : List ℕ) → is_some (behind 0 (entries_of bytes)) ≡ false
    → load_told (content_of Table bytes) ≡ Err BadContent
unloaded bytes h = ap load_told (content-entries (lines_of bytes)) ∙ not-loaded (entries_of bytes) h
