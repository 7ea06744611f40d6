-- Entries that are sorted by the keys of their names, and what they are refused for.
use Rattle.std.proofs.Common.{◌≡◌, ◌≢◌, ◌↔◌, ◌<◌, ◌≤◌, ◌+◌, ℕ, zero, suc, false, List, [], ◌∷◌, length, get_or, map}
use Rattle.std.proofs.Common.{eqb, nat_cmp, refl, sym, ◌∙◌, ap, subst, arith}
use Rattle.std.proofs.lemmas.Bool.Decides.{Decides-eqb}
use Rattle.std.proofs.lemmas.Cmp.{nat_list_cmp_total}
use Rattle.std.proofs.lemmas.List.{get_or_default, get_or-map, length-map}
use Rattle.std.proofs.lemmas.List.Sorted.{All-permutation, Contains-permutation, IsPermutation-map, IsPermutation-sym}
use Rattle.std.proofs.lemmas.List.Sorted.{length_permutation}
use Rattle.std.proofs.lemmas.Map.Keys.{IsDistinct-IsPermutation}
use Rattle.std.proofs.lemmas.Map.Made.{AllPairs-from_IsDistinct, IsDistinct-from_AllPairs}
use Rattle.std.specs.FinMap.{nat_cmp-IsAntisymmetric, slice_cmp-IsAntisymmetric}
use Rattle.std.specs.List.{All, AllByRecursion, Contains}
use Rattle.std.specs.List.Sorted.{IsPermutation, IsStrictlySortedBy}
use Rattle.std.specs.Map.{keys_of}
use Rattle.std.specs.Ordering.{is_lt, ordering_reverse, ordering_then}
use Rattle.std.specs.declared.cmp.Ordering.{Ordering}
use Rattle.std.specs.declared.cmp.Ordering.TheVariants.{Less, Equal, Greater}
use Rattle.cfb_chains.specs.Chain.{AreDistinct}
use Rattle.cfb_names.specs.Names.{key, key_cmp}
use Rattle.cfb_entries.specs.Entries.{IsNameOf, IsNamed, entry_at, name_of}
use Rattle.read_directories.proofs.InOrder.{flips}
use Rattle.cfb_faults.specs.Faults.{key_at}
use Rattle.read_directories.specs.Sorting.{AllAdjacentApart, HasEqualNeighbours, MayRefuseNames, keyed, places}
use Rattle.cfb_names.specs.declared.fault.DirFault.TheVariants.{DuplicateName}

-- a neighbour that isn't less and has another key has a greater one
adjacent_less : (a b : List ℕ) (o : Ordering) → is_lt (ordering_then (key_cmp b a) o) ≡ false → a ≢ b
    → key_cmp a b ≡ Less
adjacent_less a b o h ne =
    elim (key_cmp b a) as (λ r. key_cmp b a ≡ r → is_lt (ordering_then r o) ≡ false → key_cmp a b ≡ Less) [
      | Less ↦ λ e g. absurd (cc g)
      | Equal ↦ λ e g. absurd (ne (sym (slice_cmp-IsAntisymmetric nat_cmp-IsAntisymmetric b a e)))
      | Greater ↦ λ e g. nat_list_cmp_total.antisymm a b ∙ ap ordering_reverse e
    ] refl h

-- keys that rise from one to the next are below all that come after
module _ {X : Type 0} (k : X → List ℕ) where
  abbrev RisesFrom : X → List X → Type 0
  RisesFrom x xs = (n : ℕ) (d : X) → suc n < length (x ∷ xs)
      → key_cmp (k (get_or (x ∷ xs) n d)) (k (get_or (x ∷ xs) (suc n) d)) ≡ Less

  below : (low : List ℕ) (x : X) (xs : List X) → key_cmp low (k x) ≡ Less → RisesFrom x xs
      → AllByRecursion (λ q. key_cmp low q ≡ Less) (map k (x ∷ xs))
  below low x [] h up = (h, tt)
  below low x (y ∷ xs) h up =
      let next : key_cmp (k x) (k y) ≡ Less = up 0 x (omega arith) in (
        h,
        below low y xs (nat_list_cmp_total.trans low (k x) (k y) h next) (λ n d lt. up (suc n) d (omega (arith, lt))),
      )

  rises : (x : X) (xs : List X) → RisesFrom x xs → IsStrictlySortedBy key_cmp (map k (x ∷ xs))
  unfolding IsStrictlySortedBy
  rises x [] up = (tt, tt)
  rises x (y ∷ xs) up = (
    below (k x) y xs (up 0 x (omega arith)) (λ n d lt. up (suc n) d (omega (arith, lt))),
    rises y xs (λ n d lt. up (suc n) d (omega (arith, lt))),
  )

  pub sorted : (xs : List X) → ((n : ℕ) (d : X) → n + 1 < length xs
      → key_cmp (k (get_or xs n d)) (k (get_or xs (n + 1) d)) ≡ Less) → IsStrictlySortedBy key_cmp (map k xs)
  unfolding IsStrictlySortedBy
  sorted [] up = tt
  sorted (x ∷ xs) up = rises x xs (λ n d lt.
      let e : n + 1 ≡ suc n = omega arith in
      subst (λ (m : ℕ). key_cmp (k (get_or (x ∷ xs) n d)) (k (get_or (x ∷ xs) m d)) ≡ Less) e
      (up n d (omega (arith, lt))))

-- the name of an entry below the root, and its key
pub name_is : (dir : List ℕ) (id : ℕ) (name : List ℕ) → id ≢ 0 → IsNameOf id (entry_at dir id) name
    → name ≡ name_of (entry_at dir id)
name_is dir zero name ne h = absurd (ne refl)
name_is dir (suc id) name ne h = let named : IsNamed (entry_at dir (suc id)) name = h in named.units

pub name_key : (dir : List ℕ) (id : ℕ) (name : List ℕ) → id ≢ 0 → IsNameOf id (entry_at dir id) name
    → key name ≡ key_at dir id
name_key dir id name ne h = ap key (name_is dir id name ne h)

-- an entry behind the key of its name
abbrev pub IsKeyed : List ℕ → List ℕ × ℕ → Type 0
IsKeyed dir e = e.0 ≡ key_at dir e.1

abbrev pub key_and_id : List ℕ → ℕ → List ℕ × ℕ
key_and_id dir id = (key_at dir id, id)

pub as_keyed : (dir ids : List ℕ) → length (keyed dir ids) ≡ length ids
as_keyed dir ids = length-map ids (key_and_id dir)

pub each_keyed : (dir ids : List ℕ) → All (IsKeyed dir) (keyed dir ids)
each_keyed dir ids = λ k d lt.
    subst (IsKeyed dir) (sym (get_or-map (key_and_id dir) ids k 0 d (omega (arith, lt, as_keyed dir ids)))) refl

-- so the keys are those of the entries
pub keys_are : (dir : List ℕ) (list : List (List ℕ × ℕ)) → All (IsKeyed dir) list
    → keys_of list ≡ map (key_at dir) (places list)
keys_are dir [] each = refl
keys_are dir (e ∷ list) each = λ t. each 0 e (omega arith) t ∷ keys_are dir list
    (λ k d lt. each (suc k) d (omega (arith, lt))) t

ids_of : (dir ids : List ℕ) → places (keyed dir ids) ≡ ids
ids_of dir [] = refl
ids_of dir (n ∷ ids) = ap (λ ns. n ∷ ns) (ids_of dir ids)

module _ (dir ids : List ℕ) (list : List (List ℕ × ℕ)) (permuted : IsPermutation (keyed dir ids) list) where
  order_permuted : IsPermutation ids (places list)
  order_permuted = subst (λ (xs : List ℕ). IsPermutation xs (places list)) (ids_of dir ids)
      (IsPermutation-map (λ e. e.1) (keyed dir ids) list permuted)

  pub as_many : length ids ≡ length list
  as_many = sym (as_keyed dir ids) ∙ sym (length_permutation (keyed dir ids) list permuted)

  pub same_entries : (n : ℕ) → Contains ids n ↔ Contains (places list) n
  same_entries n = (
    Contains-permutation ids (places list) n order_permuted,
    Contains-permutation (places list) ids n (IsPermutation-sym ids (places list) order_permuted),
  )

  each : All (IsKeyed dir) list
  each = All-permutation (IsKeyed dir) (keyed dir ids) list permuted (each_keyed dir ids)

  pub in_order : ((k : ℕ) (d : List ℕ × ℕ) → 0 ≤ k → k + 1 < length list
      → is_lt (ordering_then (key_cmp (get_or list (k + 1) d).0 (get_or list k d).0)
      (nat_cmp (get_or list (k + 1) d).1 (get_or list k d).1)) ≡ false)
      → AllAdjacentApart list → IsStrictlySortedBy key_cmp (map (key_at dir) (places list))
  in_order up apart =
      subst (IsStrictlySortedBy key_cmp) (keys_are dir list each)
      (sorted (λ e. e.0) list (λ n d lt. adjacent_less _ _ _ (up n d (omega arith) lt) (apart n d lt)))

  -- a name that stands twice
  pub named_twice : AreDistinct ids → HasEqualNeighbours list → MayRefuseNames dir ids DuplicateName
  named_twice once (k, d, lt, same) =
      let l : k < length list = omega (arith, lt) in
      let m : ℕ = (get_or list k d).1 in
      let n : ℕ = (get_or list (k + 1) d).1 in
      let long : length (places list) ≡ length list = length-map list (λ e. e.1) in
      let at_m : get_or (places list) k 0 ≡ m = get_or-map (λ e. e.1) list k d 0 l in
      let at_n : get_or (places list) (k + 1) 0 ≡ n = get_or-map (λ e. e.1) list (k + 1) d 0 lt in
      let apart : AreDistinct (places list) = AllPairs-from_IsDistinct Decides-eqb (places list)
      (IsDistinct-IsPermutation eqb flips ids (places list) order_permuted
      (IsDistinct-from_AllPairs Decides-eqb ids once)) in
      let ne : m ≢ n = λ e. apart k (k + 1) 0 (omega arith) (omega (arith, lt, long)) (at_m ∙ e ∙ sym at_n) in
      let in_m : Contains (places list) m =
      (k, omega (arith, l, long), get_or_default (places list) k m 0 (omega (arith, l, long)) ∙ at_m) in
      let in_n : Contains (places list) n = (
        k + 1,
        omega (arith, lt, long),
        get_or_default (places list) (k + 1) n 0 (omega (arith, lt, long))
            ∙ at_n,
      ) in
      (m, n, (same_entries m).1 in_m, (same_entries n).1 in_n, ne, sym (each k d l) ∙ same ∙ each (k + 1) d lt)
