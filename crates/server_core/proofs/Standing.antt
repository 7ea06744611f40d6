-- Activations in a list of pairs, each with its number and no number twice.
use Rattle.std.proofs.Common.{◌≡◌, ◌≢◌, ℕ, zero, suc, Bool, true, false, cond, if◌then◌else◌, nat_eq, List, [], ◌∷◌}
use Rattle.std.proofs.Common.{map, get_or, slice_get, slice_set, refl, ap, sym, subst, ◌∙◌, Option, Some, None, arith}
use Rattle.std.specs.List.{IsDistinct, AllByRecursion}
use Rattle.std.specs.Map.{lookup, lookup_key, keys_of, values_of}
use Rattle.std.specs.Cmp.{nat_eq_equiv}
use Rattle.std.proofs.lemmas.Bool.{eqb-true, eqb-false, eq-eqb}
use Rattle.std.proofs.lemmas.Option.{get_or_from_slice_get}
use Rattle.indexmap.specs.IndexMap.{set_value_at}
use Rattle.message_values.specs.Found.{find, IsPlace}
use Rattle.object_core.specs.Content.{Content}
use Rattle.server_model.specs.Server.{Activation, is_act}
use Rattle.server_core.specs.Kept.{Kept, whole}
use Rattle.server_core.specs.Places.{IsAt}

-- the first of a list passes, or the rest is looked at
module _ {A : Type 0} (test : A → Bool) (x : A) (xs : List A) where
  first_place : test x ≡ true → IsPlace test (x ∷ xs) 0
  first_place t = record { fits = omega arith; found = rw t refl; puts = λ a. rw t refl }

  next_place : (i : ℕ) → test x ≡ false → IsPlace test xs i → IsPlace test (x ∷ xs) (suc i)
  next_place i t p = record {
    fits = (let fits = p.fits in omega (arith, fits));
    found = rw t p.found;
    puts = λ a. rw t (ap (λ ys. x ∷ ys) (p.puts a));
  }

  find_past : test x ≡ false → find test (x ∷ xs) ≡ find test xs
  find_past t = rw t refl

  none_first : find test (x ∷ xs) ≡ None → test x ≡ false
  none_first e =
      elim (test x) as (λ b. (if b then Some x else find test xs) ≡ None → b ≡ false) [
        | true ↦ λ h. cc
        | false ↦ λ h. refl
      ] e

module _ {K A : Type 0} (test : K → Bool) (x : K × A) (xs : List (K × A)) where
  absent_first : lookup test (x ∷ xs) ≡ None → test x.0 ≡ false
  absent_first e =
      elim (test x.0) as (λ b. cond b (Some x.1) (lookup test xs) ≡ None → b ≡ false) [
        | true ↦ λ h. cc
        | false ↦ λ h. refl
      ] e

  lookup_past : test x.0 ≡ false → lookup test (x ∷ xs) ≡ lookup test xs
  lookup_past t = rw t refl

key_passes : {K A : Type 0} (test : K → Bool) (xs : List (K × A)) (key : K) → lookup_key test xs ≡ Some key
    → test key ≡ true
key_passes test [] key e = cc
key_passes test (x ∷ xs) key e =
    elim (test x.0) as (λ b. test x.0 ≡ b → cond b (Some x.0) (lookup_key test xs) ≡ Some key → test key ≡ true) [
      | true ↦ λ s h. (let same : x.0 ≡ key = cc in subst (λ k. test k ≡ true) same s)
      | false ↦ λ s h. key_passes test xs key h
    ] refl e

-- what a map finds by a number stands at its place
pub stands_at : {A : Type 0} (es : List (ℕ × A)) (act i key : ℕ) (a : A) → lookup_key (nat_eq act) es ≡ Some key
    → slice_get es i ≡ Some (key, a) → IsDistinct nat_eq (keys_of es) → IsAt es act i
stands_at es act i key a found e d =
    let same : act ≡ key = eqb-true act key (key_passes (nat_eq act) es key found) in
    record { item = a; stands = subst (λ n. slice_get es i ≡ Some (n, a)) (sym same) e; distinct = d }

-- no later item has the number of one before
apart : {A : Type 0} (n : ℕ) (es : List (ℕ × A)) (act i : ℕ) (a : A) → slice_get es i ≡ Some (act, a)
    → AllByRecursion (λ y. nat_eq n y ≡ false) (keys_of es) → nat_eq n act ≡ false
apart n [] act i a s h = cc
apart {A = A} n (x ∷ xs) act zero a s h = let same : x ≡ (act, a) = cc in
    subst (λ (e : ℕ × A). nat_eq n e.0 ≡ false) same h.0
apart n (x ∷ xs) act (suc i) a s h = apart n xs act i a s h.1

-- the item at i, by the values alone
item_is : {A : Type 0} (es : List (ℕ × A)) (act i : ℕ) (a b : A) → slice_get es i ≡ Some (act, a)
    → slice_get (values_of es) i ≡ Some b → a ≡ b
item_is [] act i a b s h = cc
item_is {A = A} (x ∷ xs) act zero a b s h =
    let same : x ≡ (act, a) = cc in
    let value : x.1 ≡ b = cc in
    sym (ap (λ (e : ℕ × A). e.1) same) ∙ value
item_is (x ∷ xs) act (suc i) a b s h = item_is xs act i a b s h

pub item_at : {A : Type 0} (es : List (ℕ × A)) (act i : ℕ) (b : A) → IsAt es act i
    → slice_get (values_of es) i ≡ Some b → slice_get es i ≡ Some (act, b)
item_at es act i b p h = subst (λ a. slice_get es i ≡ Some (act, a)) (item_is es act i p.item b p.stands h) p.stands

pub get_at : {A : Type 0} (es : List A) (i : ℕ) (x : A) → slice_get es i ≡ Some x → x ≡ get_or es i x
get_at es i x h = sym (get_or_from_slice_get es i x x h)

-- a value that is set is a pair that is set
pub set_pair : {A : Type 0} (es : List (ℕ × A)) (act i : ℕ) (a w : A) → slice_get es i ≡ Some (act, a)
    → slice_set es i (act, w) ≡ set_value_at es i w
set_pair [] act i a w s = cc
set_pair {A = A} (x ∷ xs) act zero a w s = let same : x ≡ (act, a) = cc in ap (λ (e : ℕ × A). (e.0, w) ∷ xs) (sym same)
set_pair (x ∷ xs) act (suc i) a w s = ap (λ es. x ∷ es) (set_pair xs act i a w s)

module _ {A : Type 0} (k : A → Kept) where
  -- an item is seen by what is said of its content
  abbrev pub by_content : (ℕ × A → Option Content) → ℕ × A → Activation
  by_content c e = whole e.0 (k e.1) (c e)

  module _ (c : ℕ × A → Option Content) (act : ℕ) where
    pub placed : (es : List (ℕ × A)) (i : ℕ) (a : A) → slice_get es i ≡ Some (act, a)
        → IsDistinct nat_eq (keys_of es) → IsPlace (is_act act) (map (by_content c) es) i
    unfolding IsDistinct
    placed [] i a s d = cc
    placed (x ∷ xs) zero a s d =
        let same : x ≡ (act, a) = cc in
        let number : x.0 ≡ act = ap (λ (e : ℕ × A). e.0) same in
        first_place (is_act act) (by_content c x) (map (by_content c) xs) (eq-eqb _ _ number)
    placed (x ∷ xs) (suc i) a s d =
        next_place (is_act act) (by_content c x) (map (by_content c) xs) i (apart x.0 xs act i a s d.0)
        (placed xs i a s d.1)

    -- what the map doesn't find isn't known, and the other way round
    pub unfound : (es : List (ℕ × A)) → lookup (nat_eq act) es ≡ None → find (is_act act) (map (by_content c) es) ≡ None
    unfound [] h = refl
    unfound (x ∷ xs) h =
        let t : nat_eq act x.0 ≡ false = absent_first (nat_eq act) x xs h in
        find_past (is_act act) (by_content c x) (map (by_content c) xs) (nat_eq_equiv.symm x.0 act ∙ t)
        ∙ unfound xs (sym (lookup_past (nat_eq act) x xs t) ∙ h)

    pub absent : (es : List (ℕ × A)) → find (is_act act) (map (by_content c) es) ≡ None → lookup (nat_eq act) es ≡ None
    absent [] h = refl
    absent (x ∷ xs) h =
        let t : nat_eq x.0 act ≡ false = none_first (is_act act) (by_content c x) (map (by_content c) xs) h in
        lookup_past (nat_eq act) x xs (nat_eq_equiv.symm act x.0 ∙ t)
        ∙ absent xs (sym (find_past (is_act act) (by_content c x) (map (by_content c) xs) t) ∙ h)

    -- other activations are seen as before
    module _ (d : ℕ × A → Option Content) (others : (e : ℕ × A) → e.0 ≢ act → d e ≡ c e) where
      one_kept : (x : ℕ × A) → nat_eq x.0 act ≡ false → by_content d x ≡ by_content c x
      one_kept x t = ap (whole x.0 (k x.1)) (others x (λ same. eqb-false x.0 act t same))

      -- where this one isn't known
      pub all_kept : (es : List (ℕ × A)) → find (is_act act) (map (by_content c) es) ≡ None
          → map (by_content d) es ≡ map (by_content c) es
      all_kept [] h = refl
      all_kept (x ∷ xs) h =
          let t : nat_eq x.0 act ≡ false = none_first (is_act act) (by_content c x) (map (by_content c) xs) h in
          ap (λ v. v ∷ map (by_content d) xs) (one_kept x t)
          ∙ ap (λ vs. by_content c x ∷ vs)
          (all_kept xs (sym (find_past (is_act act) (by_content c x) (map (by_content c) xs) t) ∙ h))

      later_kept : (es : List (ℕ × A)) → AllByRecursion (λ y. nat_eq act y ≡ false) (keys_of es)
          → map (by_content d) es ≡ map (by_content c) es
      later_kept [] h = refl
      later_kept (x ∷ xs) h =
          ap (λ v. v ∷ map (by_content d) xs) (one_kept x (nat_eq_equiv.symm x.0 act ∙ h.0))
          ∙ ap (λ vs. by_content c x ∷ vs) (later_kept xs h.1)

      -- where this one stands at i and changes
      pub one_changed : (es : List (ℕ × A)) (i : ℕ) (a w : A) → slice_get es i ≡ Some (act, a)
          → IsDistinct nat_eq (keys_of es)
          → map (by_content d) (set_value_at es i w) ≡ slice_set (map (by_content c) es) i (by_content d (act, w))
      unfolding IsDistinct
      one_changed [] i a w s h = cc
      one_changed (x ∷ xs) zero a w s h =
          let same : x ≡ (act, a) = cc in
          let number : x.0 ≡ act = ap (λ (e : ℕ × A). e.0) same in
          let later : AllByRecursion (λ y. nat_eq act y ≡ false) (keys_of xs) =
          subst (λ (n : ℕ). AllByRecursion (λ y. nat_eq n y ≡ false) (keys_of xs)) number h.0 in
          ap (λ n. by_content d (n, w) ∷ map (by_content d) xs) number ∙ ap (λ vs. by_content d (act, w) ∷ vs)
          (later_kept xs later)
      one_changed (x ∷ xs) (suc i) a w s h =
          ap (λ v. v ∷ map (by_content d) (set_value_at xs i w)) (one_kept x (apart x.0 xs act i a s h.0))
          ∙ ap (λ vs. by_content c x ∷ vs) (one_changed xs i a w s h.1)
