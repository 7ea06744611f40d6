-- Where an object stands, found by its number among objects whose numbers rise; objects that keep their numbers;
-- numbers past all that there are.
use Rattle.std.proofs.Common.{◌≡◌, ℕ, ◌+◌, ◌<◌, ◌≤◌, zero, suc, true, false, nat_lt, List, [], ◌∷◌, ◌++◌, map, length}
use Rattle.std.proofs.Common.{get_or, remove, slice_set, refl, ap, sym, subst, ◌∙◌, None, Result, Ok, Err, MatchOption}
use Rattle.std.proofs.Common.{IfSome, Ordering, Less, Equal, Greater, nat_cmp, arith}
use Rattle.std.proofs.lemmas.Bool.{eqb-true, eq-eqb, ltb-false, ltb-true}
use Rattle.std.proofs.lemmas.Bool.Decides.{nat_tests}
use Rattle.std.proofs.lemmas.Cmp.{ranked}
use Rattle.std.specs.List.{AllByRecursion, range_with_len}
use Rattle.std.specs.List.Sorted.{IsBinarySearchResult, IsNonDecreasingBy, IsPartitionPoint, IsSearchInRange}
use Rattle.std.specs.List.Sorted.{IsStrictlySortedBy}
use Rattle.std.specs.Ordering.{ordering_index}
use Rattle.std.specs.Result.{result_ok}
use Rattle.message_values.specs.Found.{find, IsPlace}
use Rattle.container_model.specs.declared.record.Object.{Object}
use Rattle.container_model.specs.Numbered.{IsObjectAt}
use Rattle.container_model.specs.Record.{is_object, without_first}
use Rattle.container_checks.proofs.LookupPlaces.{own_place}

abbrev pub numbers : List Object → List ℕ
numbers os = map (λ (o : Object). o.number) os

abbrev pub AreRising : List ℕ → Type 0
AreRising ns = IsStrictlySortedBy nat_cmp ns

-- ---- objects whose numbers rise
behind : (m : ℕ) (os : List Object) (i : ℕ) (d : Object) → AllByRecursion (λ k. nat_cmp m k ≡ Less) (numbers os)
    → i < length os → m < (get_or os i d).number
behind m [] i d h lt = absurd (omega (arith, lt))
behind m (o ∷ os) zero d h lt = ranked m o.number Less (sym h.0)
behind m (o ∷ os) (suc i) d h lt = behind m os i d h.1 (omega (arith, lt))

in_order : (os : List Object) (i j : ℕ) (d : Object) → AreRising (numbers os) → i ≤ j → j < length os
    → (get_or os i d).number ≤ (get_or os j d).number
unfolding IsStrictlySortedBy
in_order [] i j d up le lt = absurd (omega (arith, lt))
in_order (o ∷ os) zero zero d up le lt = omega arith
in_order (o ∷ os) zero (suc j) d up le lt = (let past = behind o.number os j d up.0 (omega (arith, lt)) in
    omega (arith, past))
in_order (o ∷ os) (suc i) zero d up le lt = absurd (omega (arith, le))
in_order (o ∷ os) (suc i) (suc j) d up le lt = in_order os i j d up.1 (omega (arith, le)) (omega (arith, lt))

module _ (n : ℕ) where
  record Stands (os : List Object) (i : ℕ) : Type 0 where
    place : IsPlace (is_object n) os i
    without : without_first (is_object n) os ≡ remove os i

  here : (o : Object) (os : List Object) → is_object n o ≡ true → Stands (o ∷ os) 0
  here o os t = record {
    place = record { fits = omega arith; found = rw t refl; puts = λ a. rw t refl };
    without = rw t refl;
  }

  later : (o : Object) (os : List Object) (i : ℕ) → is_object n o ≡ false → Stands os i → Stands (o ∷ os) (suc i)
  later o os i t s = record {
    place = record {
      fits = (let fits = s.place.fits in omega (arith, fits));
      found = rw t s.place.found;
      puts = λ a. rw t (ap (λ ys. o ∷ ys) (s.place.puts a));
    };
    without = rw t (ap (λ ys. o ∷ ys) s.without);
  }

  other : (o : Object) → (o.number ≡ n → ⊥) → is_object n o ≡ false
  other o differs =
      elim (is_object n o) as (λ b. is_object n o ≡ b → b ≡ false) [
        | true ↦ λ t. absurd (differs (eqb-true o.number n t))
        | false ↦ λ t. refl
      ] refl

  stands : (os : List Object) (i : ℕ) (d : Object) → AreRising (numbers os) → i < length os
      → (get_or os i d).number ≡ n → Stands os i
  unfolding IsStrictlySortedBy
  stands [] i d up lt same = absurd (omega (arith, lt))
  stands (o ∷ os) zero d up lt same = here o os (eq-eqb o.number n same)
  stands (o ∷ os) (suc i) d up lt same =
      later o os i (other o (λ e. let past = behind o.number os i d up.0 (omega (arith, lt)) in
      omega (arith, past, same, e))) (stands os i d up.1 (omega (arith, lt)) same)

  absent : (os : List Object) (d : Object) → ((i : ℕ) → i < length os → (get_or os i d).number ≡ n → ⊥)
      → find (is_object n) os ≡ None
  absent [] d differs = refl
  absent (o ∷ os) d differs = rw (other o (differs 0 (omega arith)))
      (absent os d (λ i lt. differs (suc i) (omega (arith, lt))))

  -- how an object's number compares with the one that is looked for
  abbrev compared : Object → Ordering
  compared o = nat_cmp o.number n

  rise : (os : List Object) → AreRising (numbers os) → IsNonDecreasingBy (λ o. ordering_index (compared o)) os
  rise os up i j d le lt = (let ordered = in_order os i j d up le lt in grind (arith, nat_tests, ordered))

  not_there : (os : List Object) (place : ℕ) → IsPartitionPoint (λ o. compared o ≡ Less) (λ o. compared o ≡ Greater)
      os place → (d : Object) (i : ℕ) → i < length os → (get_or os i d).number ≡ n → ⊥
  not_there os place parted d i lt same =
      elim (nat_lt i place) as (λ b. nat_lt i place ≡ b → ⊥) [
        | true ↦ λ t. (let below = ranked (get_or os i d).number n Less
            (sym (parted.0 i d (omega arith) (ltb-true i place t))) in omega (arith, below, same))
        | false ↦ λ t. (let above = ranked (get_or os i d).number n Greater
            (sym (parted.1 i d (ltb-false i place t) lt)) in omega (arith, above, same))
      ] refl

  stood : (os : List Object) → AreRising (numbers os) → (i : ℕ) → i < length os
      → ((d : Object) → compared (get_or os i d) ≡ Equal) → Stands os i
  stood [] up i lt at = absurd (omega (arith, lt))
  stood (o ∷ os) up i lt at = stands (o ∷ os) i o up lt (ranked _ n Equal (sym (at o)))

  -- what a search by halves says of the objects
  pub found_by : (os : List Object) → AreRising (numbers os) → (r : Result ℕ ℕ) → IsSearchInRange r (length os)
      → IsBinarySearchResult compared os r → MatchOption (result_ok r) (find (is_object n) os ≡ None)
      (IsPlace (is_object n) os)
  found_by os up (Ok i) within at = (stood os up i within at).place
  found_by [] up (Err i) within parted = refl
  found_by (o ∷ os) up (Err i) within parted = absent (o ∷ os) o (not_there (o ∷ os) i (parted (rise (o ∷ os) up)) o)

  pub own_by : (os : List Object) → AreRising (numbers os) → (r : Result ℕ ℕ) → IsSearchInRange r (length os)
      → IsBinarySearchResult compared os r → IfSome (result_ok r) (IsObjectAt os)
  own_by os up (Ok i) within at = (let s = stood os up i within at in own_place n os i s.place s.without)
  own_by os up (Err i) within parted = tt

-- ---- objects that keep their numbers
pub set_kept : (os : List Object) (i : ℕ) (o x : Object) → x ≡ get_or os i x → o.number ≡ x.number
    → numbers (slice_set os i o) ≡ numbers os
set_kept [] i o x at same = refl
set_kept (y ∷ ys) zero o x at same = ap (λ n. n ∷ numbers ys) (same ∙ ap (λ (z : Object). z.number) at)
set_kept (y ∷ ys) (suc i) o x at same = ap (λ ns. y.number ∷ ns) (set_kept ys i o x at same)

-- where the numbers stay as they were, they still rise
pub still : {ns ms : List ℕ} → AreRising ns → ns ≡ ms → AreRising ms
still up same = subst AreRising same up

-- there are none
pub none_rise : AreRising []
unfolding IsStrictlySortedBy
none_rise = tt

-- one of them changes
pub one_kept : (os : List Object) (i : ℕ) (o x : Object) → AreRising (numbers os) → x ≡ get_or os i x
    → o.number ≡ x.number → AreRising (numbers (slice_set os i o))
one_kept os i o x up at same = still up (sym (set_kept os i o x at same))

-- each of them changes
pub each_kept : (f : Object → Object) → ((o : Object) → (f o).number ≡ o.number) → (os : List Object)
    → numbers (map f os) ≡ numbers os
each_kept f same [] = refl
each_kept f same (o ∷ os) = ap (λ n. n ∷ numbers (map f os)) (same o) ∙ ap (λ ns. o.number ∷ ns) (each_kept f same os)

numbers_more : (os : List Object) (o : Object) (more : List Object) → numbers os ++ numbers (o ∷ more)
    ≡ numbers (os ++ o ∷ []) ++ numbers more
numbers_more [] o more = refl
numbers_more (x ∷ os) o more = ap (λ ns. x.number ∷ ns) (numbers_more os o more)

above_front : (m : ℕ) (ns ms : List ℕ) → AllByRecursion (λ k. nat_cmp m k ≡ Less) (ns ++ ms)
    → AllByRecursion (λ k. nat_cmp m k ≡ Less) ns
above_front m [] ms h = tt
above_front m (n ∷ ns) ms h = (h.0, above_front m ns ms h.1)

rising_front : (ns ms : List ℕ) → AreRising (ns ++ ms) → AreRising ns
unfolding IsStrictlySortedBy
rising_front [] ms up = tt
rising_front (n ∷ ns) ms up = (above_front n ns ms up.0, rising_front ns ms up.1)

-- one more of those that are to come
pub one_more : (os : List Object) (o : Object) (more : List Object) → AreRising (numbers os ++ numbers (o ∷ more))
    → AreRising (numbers (os ++ o ∷ []))
one_more os o more up = rising_front (numbers (os ++ o ∷ [])) (numbers more) (still up (numbers_more os o more))

-- one of them goes
gone_above : (m : ℕ) (os : List Object) (i : ℕ) → AllByRecursion (λ k. nat_cmp m k ≡ Less) (numbers os)
    → AllByRecursion (λ k. nat_cmp m k ≡ Less) (numbers (remove os i))
gone_above m [] zero h = h
gone_above m [] (suc i) h = h
gone_above m (o ∷ os) zero h = h.1
gone_above m (o ∷ os) (suc i) h = (h.0, gone_above m os i h.1)

pub one_gone : (os : List Object) (i : ℕ) → AreRising (numbers os) → AreRising (numbers (remove os i))
unfolding IsStrictlySortedBy
one_gone [] zero up = up
one_gone [] (suc i) up = up
one_gone (o ∷ os) zero up = up.1
one_gone (o ∷ os) (suc i) up = (gone_above o.number os i up.0, one_gone os i up.1)

-- ---- numbers past all that there are
above_more : (m : ℕ) (ns ms : List ℕ) → AllByRecursion (λ k. nat_cmp m k ≡ Less) ns
    → AllByRecursion (λ k. nat_cmp m k ≡ Less) ms → AllByRecursion (λ k. nat_cmp m k ≡ Less) (ns ++ ms)
above_more m [] ms h g = g
above_more m (n ∷ ns) ms h g = (h.0, above_more m ns ms h.1 g)

range_above : (m k count : ℕ) → m < k → AllByRecursion (λ n. nat_cmp m n ≡ Less) (range_with_len k count)
range_above m k zero lt = tt
range_above m k (suc count) lt = (grind (arith, nat_tests, lt), range_above m (k + 1) count (omega (arith, lt)))

range_rises : (k count : ℕ) → AreRising (range_with_len k count)
unfolding IsStrictlySortedBy
range_rises k zero = tt
range_rises k (suc count) = (range_above k (k + 1) count (omega arith), range_rises (k + 1) count)

-- numbers up to m, and then the next ones
pub rising_next : (m : ℕ) (ns : List ℕ) (count : ℕ) → AreRising ns → AllByRecursion (λ k. k ≤ m) ns
    → AreRising (ns ++ range_with_len (m + 1) count)
unfolding IsStrictlySortedBy
rising_next m [] count up h = range_rises (m + 1) count
rising_next m (n ∷ ns) count up h = (
  above_more n ns (range_with_len (m + 1) count) up.0
      (range_above n (m + 1) count (let le = h.0 in omega (arith, le))),
  rising_next m ns count up.1 h.1,
)
