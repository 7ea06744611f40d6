-- Marks of entries.
use Rattle.std.proofs.Common.{◌≡◌, ◌≢◌, ◌<◌, ◌≤◌, ◌+◌, ℕ, zero, suc, Bool, true, false, ◌⊎◌, inl, inr, List, [], ◌∷◌}
use Rattle.std.proofs.Common.{◌++◌, length, get_or, set, refl, sym, ◌∙◌, ap, subst, arith, append_assoc, append-nil}
use Rattle.std.proofs.Common.{length-append}
use Rattle.std.proofs.lemmas.Bool.{cases_Bool}
use Rattle.std.proofs.lemmas.List.Elements.{All-push}
use Rattle.std.proofs.lemmas.List.Quantifiers.{all_pairs_push}
use Rattle.std.proofs.lemmas.List.{get_or-append-add, get_or_default}
use Rattle.std.proofs.Math.ListN.{length-set, get_or-append}
use Rattle.std.specs.List.{All, Contains}
use Rattle.cfb_entries.specs.Entries.{EntriesValue, IsFree, AreFree, marked}
use Rattle.cfb_bytes.specs.Marks.{set_all}
use Rattle.cfb_entries.specs.Walk.{clear_all, unmarked}

-- one mark
set_true : (used : List Bool) (m n : ℕ) → (n ≡ m) ⊎ (get_or used n true ≡ true) → get_or (set used m true) n true ≡ true
set_true [] m n h = refl
set_true (b ∷ bs) zero zero h = refl
set_true (b ∷ bs) zero (suc n) (inl e) = absurd (omega arith)
set_true (b ∷ bs) zero (suc n) (inr t) = t
set_true (b ∷ bs) (suc m) zero (inl e) = absurd (omega arith)
set_true (b ∷ bs) (suc m) zero (inr t) = t
set_true (b ∷ bs) (suc m) (suc n) (inl e) = set_true bs m n (inl (omega arith))
set_true (b ∷ bs) (suc m) (suc n) (inr t) = set_true bs m n (inr t)

set_else : (used : List Bool) (m n : ℕ) (d : Bool) → m ≢ n → get_or (set used m true) n d ≡ get_or used n d
set_else [] m n d h = refl
set_else (b ∷ bs) zero zero d h = absurd (h refl)
set_else (b ∷ bs) zero (suc n) d h = refl
set_else (b ∷ bs) (suc m) zero d h = refl
set_else (b ∷ bs) (suc m) (suc n) d h = set_else bs m n d (λ e. h (omega arith))

set_back : (used : List Bool) (n : ℕ) → get_or used n true ≡ false → set (set used n true) n false ≡ used
set_back [] n h = refl
set_back (b ∷ bs) zero h = ap (λ x. x ∷ bs) (sym h)
set_back (b ∷ bs) (suc n) h = ap (λ xs. b ∷ xs) (set_back bs n h)

-- many marks
pub length-set_all : (used : List Bool) (ns : List ℕ) → length (set_all used ns) ≡ length used
length-set_all used [] = refl
length-set_all used (n ∷ ns) = length-set_all (set used n true) ns ∙ length-set used n true

pub set_all-append : (used : List Bool) (ms ns : List ℕ) → set_all used (ms ++ ns) ≡ set_all (set_all used ms) ns
set_all-append used [] ns = refl
set_all-append used (m ∷ ms) ns = set_all-append (set used m true) ms ns

pub set_all-stays : (used : List Bool) (ns : List ℕ) (n : ℕ) → get_or used n true ≡ true
    → get_or (set_all used ns) n true ≡ true
set_all-stays used [] n h = h
set_all-stays used (m ∷ ns) n h = set_all-stays (set used m true) ns n (set_true used m n (inr h))

-- a list with one more at its front
Contains-cases : (x : ℕ) (xs : List ℕ) (z : ℕ) → Contains (x ∷ xs) z → (x ≡ z) ⊎ Contains xs z
Contains-cases x xs z (zero, lt, is) = inl is
Contains-cases x xs z (suc k, lt, is) = inr (k, omega arith, is)

pub set_all-there : (used : List Bool) (ns : List ℕ) (n : ℕ) → Contains ns n → get_or (set_all used ns) n true ≡ true
set_all-there used [] n (k, lt, is) = absurd (omega arith)
set_all-there used (m ∷ ns) n c =
    elim (Contains-cases m ns n c) [
      | inl e ↦ set_all-stays (set used m true) ns n (set_true used m n (inl (sym e)))
      | inr d ↦ set_all-there (set used m true) ns n d
    ]

pub set_all-else : (used : List Bool) (ns : List ℕ) (n : ℕ) (d : Bool) → All (λ m. m ≢ n) ns
    → get_or (set_all used ns) n d ≡ get_or used n d
set_all-else used [] n d h = refl
set_all-else used (m ∷ ns) n d h =
    set_all-else (set used m true) ns n d (λ k x lt. h (suc k) x (omega arith))
    ∙ set_else used m n d (h 0 0 (omega arith))

-- free entries, one more of them
module _ (e : EntriesValue) where
  pub AreFree-none : AreFree e []
  AreFree-none = record { free = λ k d lt. absurd (omega arith); once = λ i j d lt h. absurd (omega arith) }

  pub AreFree-push : (ids : List ℕ) (id : ℕ) → AreFree e ids → IsFree (marked e ids) id → AreFree e (ids ++ id ∷ [])
  AreFree-push ids id h f =
      let unmarked : get_or e.used id true ≡ false =
      elim (cases_Bool (get_or e.used id true)) [
        | inl t ↦ absurd (let g : get_or (set_all e.used ids) id true ≡ true = set_all-stays e.used ids id t in
            cc (g, f.1))
        | inr g ↦ g
      ] in
      record {
        free = All-push (IsFree e) ids id h.free (f.0, unmarked);
        once = all_pairs_push (λ m n. m ≢ n) ids id h.once
            (λ k d lt same. let g : get_or (set_all e.used ids) id true ≡ true =
            set_all-there e.used ids id (k, lt, get_or_default ids k id d lt ∙ same) in absurd (cc (g, f.1)));
      }

  -- the one behind those that are marked is free
  pub AreFree-next : (ids : List ℕ) (id : ℕ) (rest : List ℕ) → AreFree e (ids ++ (id ∷ rest)) → IsFree (marked e ids) id
  AreFree-next ids id rest h =
      let n : ℕ = length ids in
      let lt : n < length (ids ++ (id ∷ rest)) = omega (arith, length-append ids (id ∷ rest)) in
      let z : n + 0 ≡ n = omega arith in
      let is : (d : ℕ) → get_or (ids ++ (id ∷ rest)) n d ≡ id = λ d. ap (λ k. get_or (ids ++ (id ∷ rest)) k d)
      (sym z) ∙ get_or-append-add ids (id ∷ rest) 0 d in
      let f : IsFree e id = subst (IsFree e) (is 0) (h.free n 0 lt) in
      let apart : All (λ m. m ≢ id) ids = λ k d l same.
      h.once k n d l lt (get_or-append ids (id ∷ rest) d k l ∙ same ∙ sym (is d)) in
      (f.0, set_all-else e.used ids id true apart ∙ f.1)

  pub AreFree-front : (ids more : List ℕ) → AreFree e (ids ++ more) → AreFree e ids
  AreFree-front ids more h = record {
    free = λ k d lt. let l : k < length (ids ++ more) = omega (arith, length-append ids more) in
        subst (IsFree e) (get_or-append ids more d k lt) (h.free k d l);
    once = λ i j d lt l same.
        let m : j < length (ids ++ more) = omega (arith, length-append ids more) in
        h.once i j d lt m (get_or-append ids more d i (omega arith) ∙ same ∙ sym (get_or-append ids more d j l));
  }

  -- marks that are taken back
  pub unmarked-marked : (ids more : List ℕ) → AreFree e (ids ++ more)
      → clear_all (set_all e.used (ids ++ more)) more ≡ set_all e.used ids
  unmarked-marked ids [] h = ap (set_all e.used) (append-nil ids)
  unmarked-marked ids (n ∷ more) h =
      let split : ids ++ (n ∷ more) ≡ (ids ++ n ∷ []) ++ more = sym (append_assoc ids (n ∷ []) more) in
      let rest : clear_all (set_all e.used (ids ++ (n ∷ more))) more ≡ set_all e.used (ids ++ n ∷ []) =
      ap (λ xs. clear_all (set_all e.used xs) more) split ∙ unmarked-marked (ids ++ n ∷ []) more
      (subst (AreFree e) split h) in
      ap (λ u. set u n false) rest ∙ ap (λ u. set u n false) (set_all-append e.used ids (n ∷ []))
      ∙ set_back (set_all e.used ids) n (AreFree-next ids n more h).1

-- all or the last of a list with one more at its end
pub All-front : (P : ℕ → Type 0) (xs : List ℕ) (y : ℕ) → All P (xs ++ y ∷ []) → All P xs
All-front P xs y h = λ k d lt.
    let l : k < length (xs ++ y ∷ []) = omega (arith, length-append xs (y ∷ [])) in
    subst P (get_or-append xs (y ∷ []) d k lt) (h k d l)

pub All-last : (P : ℕ → Type 0) (xs : List ℕ) (y : ℕ) → All P (xs ++ y ∷ []) → P y
All-last P xs y h =
    let l : length xs + 0 < length (xs ++ y ∷ []) = omega (arith, length-append xs (y ∷ [])) in
    subst P (get_or-append-add xs (y ∷ []) 0 0) (h (length xs + 0) 0 l)

-- one more mark
pub marked-push : (e s : EntriesValue) (ids : List ℕ) (id : ℕ) → s ≡ marked e ids
    → marked s (id ∷ []) ≡ marked e (ids ++ id ∷ [])
marked-push e s ids id h =
    let used : set_all (set_all e.used ids) (id ∷ []) ≡ set_all e.used (ids ++ id ∷ []) =
    sym (set_all-append e.used ids (id ∷ [])) in
    ap (λ v. marked v (id ∷ [])) h ∙ (λ t. record { directory = e.directory; used = used t })

-- what was marked is among the marks, and can be taken back
pub free_below : (used : List Bool) (n : ℕ) → get_or used n true ≡ false → n < length used
free_below [] n h = absurd (cc h)
free_below (b ∷ bs) zero h = omega arith
free_below (b ∷ bs) (suc n) h = omega (arith, free_below bs n h)

pub marked-inside : (e : EntriesValue) (ids : List ℕ) → AreFree e ids → All (λ n. n < length (marked e ids).used) ids
marked-inside e ids h = λ k d lt.
    let f : IsFree e (get_or ids k d) = h.free k d lt in
    omega (arith, length-set_all e.used ids, free_below e.used (get_or ids k d) f.1)

pub unmarked-all : (e s : EntriesValue) (ids : List ℕ) → AreFree e ids → s ≡ marked e ids → unmarked s ids ≡ e
unmarked-all e s ids h is =
    let used : clear_all (set_all e.used ids) ids ≡ e.used = unmarked-marked e [] ids h in
    ap (λ v. unmarked v ids) is ∙ (λ t. record { directory = e.directory; used = used t })

pub clear_all-push : (used : List Bool) (ns : List ℕ) (n : ℕ) → clear_all used (ns ++ n ∷ [])
    ≡ clear_all (set used n false) ns
clear_all-push used [] n = refl
clear_all-push used (m ∷ ns) n = ap (λ u. set u m false) (clear_all-push used ns n)

-- how many entries aren't marked
abbrev pub unused : List Bool → ℕ
unused [] = 0
unused (true ∷ bs) = unused bs
unused (false ∷ bs) = suc (unused bs)

pub unused-le : (bs : List Bool) → unused bs ≤ length bs
unused-le [] = omega arith
unused-le (true ∷ bs) = omega (arith, unused-le bs)
unused-le (false ∷ bs) = omega (arith, unused-le bs)

pub unused-set : (bs : List Bool) (n : ℕ) → get_or bs n true ≡ false → unused bs ≡ suc (unused (set bs n true))
unused-set [] n e = absurd (cc e)
unused-set (true ∷ bs) zero e = absurd (cc e)
unused-set (false ∷ bs) zero e = refl
unused-set (true ∷ bs) (suc n) e = unused-set bs n e
unused-set (false ∷ bs) (suc n) e = ap (λ x. suc x) (unused-set bs n e)
