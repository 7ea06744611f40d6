-- Steps of a walk in order over linked entries: those met are found or wait, the last that waits to be found next.
use Rattle.std.proofs.Common.{◌≡◌, ◌≢◌, ◌<◌, ◌*◌, ℕ, zero, suc, Bool, true, inl, inr, eqb, List, [], ◌∷◌, ◌++◌, length}
use Rattle.std.proofs.Common.{get_or, map, set, refl, sym, ◌∙◌, ap, subst, arith, append_assoc, append-nil}
use Rattle.std.proofs.lemmas.Bool.Decides.{Decides-eqb, eqb_tells}
use Rattle.std.proofs.lemmas.List.{map-append}
use Rattle.std.proofs.lemmas.List.Elements.{All-contains, All-push, Contains-append_right, Contains-get_or}
use Rattle.std.proofs.lemmas.List.Sorted.{All-permutation, IsPermutation-append_left, IsPermutation-pop_more}
use Rattle.std.proofs.lemmas.List.Sorted.{IsPermutation-refl, IsPermutation-to_front}
use Rattle.std.proofs.lemmas.Map.Keys.{IsDistinct-IsPermutation}
use Rattle.std.proofs.lemmas.Map.Made.{AllPairs-from_IsDistinct, IsDistinct-from_AllPairs}
use Rattle.std.specs.List.{All}
use Rattle.std.specs.List.Sorted.{IsPermutation}
use Rattle.cfb_bytes.specs.Marks.{set_all}
use Rattle.cfb_entries.specs.Entries.{AreFree, EntriesValue, IsFree, MayRefuseLinked, NO_STREAM, Reaches, entry_at}
use Rattle.cfb_entries.specs.Entries.{here, left, marked, right}
use Rattle.read_directories.specs.Reached.{AreReached}
use Rattle.cfb_entries.specs.Walk.{IsTaken, clear_all, unmarked}
use Rattle.cfb_names.specs.declared.fault.DirFault.{DirFault}
use Rattle.cfb_entries.proofs.Inside.{Begins, Begins-nobody, Begins-start, Begins-step}
use Rattle.cfb_entries.proofs.Linked.{Completes, Completes-end, Completes-nobody, Completes-start, Completes-step}
use Rattle.cfb_entries.proofs.Linked.{reaches_left, reaches_right}
use Rattle.cfb_entries.proofs.Marks.{All-front, All-last, AreFree-none, AreFree-push, length-set_all, marked-inside}
use Rattle.cfb_entries.proofs.Marks.{marked-push, set_all-append, unmarked-all, unmarked-marked}
use Rattle.read_directories.proofs.Walk.{taken_refused}

-- a mark may be made before others
set_before : (used : List Bool) (m n : ℕ) → set (set used m true) n true ≡ set (set used n true) m true
set_before [] m n = refl
set_before (b ∷ bs) zero zero = refl
set_before (b ∷ bs) zero (suc n) = refl
set_before (b ∷ bs) (suc m) zero = refl
set_before (b ∷ bs) (suc m) (suc n) = ap (λ xs. b ∷ xs) (set_before bs m n)

set_all-last : (used : List Bool) (ns : List ℕ) (n : ℕ) → set_all used (ns ++ n ∷ []) ≡ set_all (set used n true) ns
set_all-last used [] n = refl
set_all-last used (m ∷ ns) n = set_all-last (set used m true) ns n ∙ ap (λ u. set_all u ns) (set_before used m n)

marks_moved : (used : List Bool) (found ws : List ℕ) (id : ℕ) → set_all used (found ++ (ws ++ id ∷ []))
    ≡ set_all used ((found ++ id ∷ []) ++ ws)
marks_moved used found ws id =
    set_all-append used found (ws ++ id ∷ []) ∙ set_all-last (set_all used found) ws id
    ∙ ap (λ u. set_all u ws) (sym (set_all-append used found (id ∷ [])))
    ∙ sym (set_all-append used (found ++ id ∷ []) ws)

-- the right links of entries
abbrev pub rights : List ℕ → List ℕ → List ℕ
rights d ids = map (λ n. right (entry_at d n)) ids

rights-push : (d ws : List ℕ) (id : ℕ) → rights d (ws ++ id ∷ []) ≡ rights d ws ++ right (entry_at d id) ∷ []
rights-push d ws id = map-append (λ n. right (entry_at d n)) ws (id ∷ [])

-- how far a walk from a top has come that goes on at a link
pub record Walked (e s : EntriesValue) (top at : ℕ) (found waiting : List ℕ) : Type 0 where
  pub met : List ℕ
  pub met_marks : s ≡ marked e met
  pub marks : s ≡ marked e (found ++ waiting)
  pub met_free : AreFree e met
  pub same : IsPermutation met (found ++ waiting)
  pub reached : All (Reaches e.directory top) (rights e.directory waiting ++ at ∷ [])
  pub linked : Completes e.directory top met (rights e.directory waiting ++ at ∷ [])
  pub begins : Begins e.directory top met (rights e.directory waiting ++ at ∷ [])

pub walked_start : (e : EntriesValue) (top : ℕ) → Walked e e top top [] []
walked_start e top = record {
  met = [];
  met_marks = refl;
  marks = refl;
  met_free = AreFree-none e;
  same = IsPermutation-refl [];
  reached = All-push (Reaches e.directory top) [] top (λ k d lt. absurd (omega arith)) (here top);
  linked = Completes-start e.directory top;
  begins = Begins-start e.directory top;
}

module _ (e s : EntriesValue) (top : ℕ) (found ws : List ℕ) where
  -- a link leads to an entry that wasn't met: it waits, and its left link is next
  pub walked_down : (t : EntriesValue) (at : ℕ) → at ≢ NO_STREAM → IsFree s at → t ≡ marked s (at ∷ [])
      → Walked e s top at found ws
      → Walked e t top (left (entry_at e.directory at)) found (ws ++ at ∷ [])
  walked_down t at ne free is w =
      let d : List ℕ = e.directory in
      let L : ℕ = left (entry_at d at) in
      let R : ℕ = right (entry_at d at) in
      let Met : ℕ → Type 0 = Reaches d top in
      let unmet : IsFree (marked e w.met) at = subst (λ (v : EntriesValue). IsFree v at) w.met_marks free in
      let inside : 128 * at < length d = unmet.0 in
      let here_met : Reaches d top at = All-last Met (rights d ws) at w.reached in
      let next : (rights d ws ++ R ∷ []) ++ L ∷ [] ≡ rights d (ws ++ at ∷ []) ++ L ∷ [] =
      ap (λ xs. xs ++ L ∷ []) (sym (rights-push d ws at)) in
      let whole : (found ++ ws) ++ at ∷ [] ≡ found ++ (ws ++ at ∷ []) = append_assoc found ws (at ∷ []) in
      record {
        met = w.met ++ at ∷ [];
        met_marks = is ∙ marked-push e s w.met at w.met_marks;
        marks = is ∙ marked-push e s (found ++ ws) at w.marks ∙ ap (marked e) whole;
        met_free = AreFree-push e w.met at w.met_free unmet;
        same = subst (IsPermutation (w.met ++ at ∷ [])) whole
            (IsPermutation-append_left (at ∷ []) w.met (found ++ ws) w.same);
        reached = subst (All Met) next
            (All-push Met (rights d ws ++ R ∷ []) L
            (All-push Met (rights d ws) R (All-front Met (rights d ws) at w.reached)
            (reaches_right d top at ne inside here_met))
            (reaches_left d top at ne inside here_met));
        linked = subst (Completes d top (w.met ++ at ∷ [])) next
            (Completes-step d top w.met (rights d ws) at ne inside w.linked);
        begins = subst (Begins d top (w.met ++ at ∷ [])) next
            (Begins-step d top w.met (rights d ws) at ne inside w.begins);
      }

  -- a link leads to nobody: the last that waits is found, and its right link is next
  pub walked_up : (at id : ℕ) → at ≡ NO_STREAM → Walked e s top at found (ws ++ id ∷ [])
      → Walked e s top (right (entry_at e.directory id)) (found ++ id ∷ []) ws
  walked_up at id none w =
      let d : List ℕ = e.directory in
      let R : ℕ = right (entry_at d id) in
      let waits : rights d (ws ++ id ∷ []) ++ at ∷ [] ≡ (rights d ws ++ R ∷ []) ++ at ∷ [] =
      ap (λ xs. xs ++ at ∷ []) (rights-push d ws id) in
      record {
        met = w.met;
        met_marks = w.met_marks;
        marks = w.marks ∙ (λ t. record { directory = e.directory; used = marks_moved e.used found ws id t });
        met_free = w.met_free;
        same = IsPermutation-pop_more w.met found (ws ++ id ∷ []) ws id w.same (IsPermutation-to_front ws id);
        reached = All-front (Reaches d top) (rights d ws ++ R ∷ []) at (subst (All (Reaches d top)) waits w.reached);
        linked = Completes-nobody d top w.met (rights d ws ++ R ∷ []) at none
            (subst (Completes d top w.met) waits w.linked);
        begins = Begins-nobody d top w.met (rights d ws ++ R ∷ []) at none (subst (Begins d top w.met) waits w.begins);
      }

-- nobody waits any more
pub walked_end : (e s : EntriesValue) (top at : ℕ) (found : List ℕ) → at ≡ NO_STREAM → Walked e s top at found []
    → AreReached e s top found
walked_end e s top at found none w = record {
  reached = w.met;
  linked = Completes-end e.directory top w.met (Completes-nobody e.directory top w.met [] at none w.linked);
  free = w.met_free;
  marks = w.met_marks;
  same = subst (IsPermutation w.met) (append-nil found) w.same;
}

-- an entry at which the walk stops
pub walked_refused : (e s : EntriesValue) (top at : ℕ) (found ws : List ℕ) (fault : DirFault) → at ≢ NO_STREAM
    → IsTaken s at fault → Walked e s top at found ws
    → MayRefuseLinked e top fault
walked_refused e s top at found ws fault ne taken w =
    taken_refused e s top w.met (rights e.directory ws) at fault w.met_marks w.begins
    (All-last (Reaches e.directory top) (rights e.directory ws) at w.reached) ne taken

pub flips : (x y : ℕ) → eqb x y ≡ eqb y x
flips x y =
    elim (eqb_tells x y) [
      | inl p ↦ elim (eqb_tells y x) [ inl q ↦ p.0 ∙ sym q.0 | inr q ↦ absurd (q.1 (sym p.1)) ]
      | inr p ↦ elim (eqb_tells y x) [ inl q ↦ absurd (p.1 (sym q.1)) | inr q ↦ p.0 ∙ sym q.0 ]
    ]

-- free entries in another order
free_moved : (e : EntriesValue) (xs ys : List ℕ) → IsPermutation xs ys → AreFree e xs → AreFree e ys
free_moved e xs ys p f = record {
  free = All-permutation (IsFree e) xs ys p f.free;
  once = AllPairs-from_IsDistinct Decides-eqb ys
      (IsDistinct-IsPermutation eqb flips xs ys p (IsDistinct-from_AllPairs Decides-eqb xs f.once));
}

-- those found and those that wait are free, as those met are
pub walked_free : (e s : EntriesValue) (top at : ℕ) (found ws : List ℕ) → Walked e s top at found ws
    → AreFree e (found ++ ws)
walked_free e s top at found ws w = free_moved e w.met (found ++ ws) w.same w.met_free

-- who waits is there
pub walked_inside : (e s : EntriesValue) (top at : ℕ) (found ws : List ℕ) (id : ℕ)
    → Walked e s top at found (ws ++ id ∷ []) → 128 * id < length s.directory
walked_inside e s top at found ws id w =
    let all : All (IsFree e) ((found ++ ws) ++ id ∷ []) =
    subst (All (IsFree e)) (sym (append_assoc found ws (id ∷ [])))
    (All-permutation (IsFree e) w.met (found ++ (ws ++ id ∷ [])) w.same w.met_free.free) in
    let free : IsFree e id = All-last (IsFree e) (found ++ ws) id all in
    subst (λ (v : EntriesValue). 128 * id < length v.directory) (sym w.met_marks) free.0

-- what was marked is among the marks
pub all_inside : (e s : EntriesValue) (ids : List ℕ) → AreFree e ids → s ≡ marked e ids
    → All (λ n. n < length s.used) ids
all_inside e s ids free is = subst (λ (v : EntriesValue). All (λ n. n < length v.used) ids) (sym is)
    (marked-inside e ids free)

pub last_inside : (e s : EntriesValue) (found ws : List ℕ) → AreFree e (found ++ ws) → s ≡ marked e (found ++ ws)
    → All (λ n. n < length s.used) ws
last_inside e s found ws free is = λ k d lt.
    All-contains (λ n. n < length s.used) (found ++ ws) (get_or ws k d) (all_inside e s (found ++ ws) free is)
    (Contains-append_right found ws (get_or ws k d) (Contains-get_or ws k d lt))

-- what is left of the marks once those that wait are taken back
pub half_back : (e s t : EntriesValue) (found ws : List ℕ) → AreFree e (found ++ ws) → s ≡ marked e (found ++ ws)
    → t ≡ unmarked s ws → t ≡ marked e found
half_back e s t found ws free is back =
    let half : clear_all (set_all e.used (found ++ ws)) ws ≡ set_all e.used found = unmarked-marked e found ws free in
    back ∙ ap (λ v. unmarked v ws) is ∙ (λ t. record { directory = e.directory; used = half t })

-- entries have as many marks, whichever are on
pub as_many : (e s : EntriesValue) (ids : List ℕ) → s ≡ marked e ids → length s.used ≡ length e.used
as_many e s ids is = ap (λ (v : EntriesValue). length v.used) is ∙ length-set_all e.used ids

pub taken_back : (e s t : EntriesValue) (ids : List ℕ) → AreFree e ids → s ≡ marked e ids → t ≡ unmarked s ids → t ≡ e
taken_back e s t ids free is back = back ∙ unmarked-all e s ids free is
