-- Building a tree of siblings from their names.
use Rattle.std.proofs.Common.{◌≡◌, ◌≢◌, ◌<◌, ◌≤◌, ◌+◌, ◌-◌, ◌/◌, ℕ, zero, suc, false, inl, inr, List, [], ◌∷◌, ◌++◌}
use Rattle.std.proofs.Common.{length, take, drop, get_or, set, eqb, nat_cmp, refl, sym, ◌∙◌, ap, subst, arith}
use Rattle.std.proofs.Common.{get_or-set_other, get_or-set_same}
use Rattle.std.proofs.lemmas.Bool.{cases_lt}
use Rattle.std.proofs.lemmas.Bool.Decides.{Decides-eqb, eqb_tells}
use Rattle.std.proofs.lemmas.List.{get_or_default, get_or-map, length-map}
use Rattle.std.proofs.lemmas.List.Elements.{All-drop, All-take, Contains-append_left, Contains-append_right}
use Rattle.std.proofs.lemmas.List.FromFn.{get_or-range_with_len, length-range_with_len}
use Rattle.std.proofs.lemmas.List.Sorted.{All-permutation, IsPermutation-map}
use Rattle.std.proofs.lemmas.Map.Keys.{IsDistinct-IsPermutation}
use Rattle.std.proofs.lemmas.Map.Made.{AllPairs-from_IsDistinct, IsDistinct-from_AllPairs}
use Rattle.std.specs.Cmp.Lexicographic.{nat_list_cmp_total}
use Rattle.std.specs.FinMap.{nat_cmp-IsAntisymmetric, slice_cmp-IsAntisymmetric}
use Rattle.std.specs.List.{All, AllPairs, Contains, range_with_len}
use Rattle.std.specs.List.Sorted.{IsPermutation}
use Rattle.std.specs.Ordering.{is_lt, ordering_reverse, ordering_then}
use Rattle.std.specs.declared.cmp.Ordering.{Ordering}
use Rattle.std.specs.declared.cmp.Ordering.TheVariants.{Less, Equal, Greater}
use Rattle.cfb_bytes.specs.Marks.{AreDistinct}
use Rattle.write_directory.specs.Building.{AllAdjacentApart, HasEqualNeighbours, KeepsOthers, keyed_from, keyed_names}
use Rattle.write_directory.specs.Building.{places}
use Rattle.cfb_names.specs.Names.{key, key_cmp, name_cmp}
use Rattle.cfb_entries.specs.SearchTree.{IsTree, nobody, somebody, MayRefuseBuild}
use Rattle.cfb_names.specs.declared.fault.DirFault.TheVariants.{DuplicateName}
use Rattle.cfb_names.proofs.Keys.{keys_agree, slice_cmp-same}
use Rattle.cfb_entries.proofs.Marked.{distinct_apart, distinct_behind}

-- names with their keys and places
pub keyed_from-push : (at : ℕ) (names : List (List ℕ)) (name : List ℕ) → keyed_from at (names ++ name ∷ [])
    ≡ keyed_from at names ++ (key name, at + length names) ∷ []
keyed_from-push at [] name = let e : at ≡ at + 0 = omega arith in ap (λ n. (key name, n) ∷ []) e
keyed_from-push at (x ∷ names) name =
    let e : at + 1 + length names ≡ at + suc (length names) = omega arith in
    ap (λ xs. (key x, at) ∷ xs) (keyed_from-push (at + 1) names name
    ∙ ap (λ n. keyed_from (at + 1) names ++ (key name, n) ∷ []) e)

length-keyed_from : (at : ℕ) (names : List (List ℕ)) → length (keyed_from at names) ≡ length names
length-keyed_from at [] = refl
length-keyed_from at (x ∷ names) = ap (λ n. suc n) (length-keyed_from (at + 1) names)

keyed_at : (at : ℕ) (names : List (List ℕ)) (k : ℕ) (d : List ℕ × ℕ) → k < length names
    → get_or (keyed_from at names) k d ≡ (key (get_or names k []), at + k)
keyed_at at [] k d h = absurd (omega arith)
keyed_at at (x ∷ names) zero d h = let e : at ≡ at + 0 = omega arith in ap (λ n. (key x, n)) e
keyed_at at (x ∷ names) (suc k) d h =
    let e : at + 1 + k ≡ at + suc k = omega arith in keyed_at (at + 1) names k d (omega arith)
    ∙ ap (λ n. (key (get_or names k []), n)) e

places-keyed_from : (at : ℕ) (names : List (List ℕ)) → places (keyed_from at names) ≡ range_with_len at (length names)
places-keyed_from at [] = refl
places-keyed_from at (x ∷ names) = ap (λ xs. at ∷ xs) (places-keyed_from (at + 1) names)

-- a neighbour that isn't less and has another key has a greater one
adjacent_less : (a b : List ℕ) (o : Ordering) → is_lt (ordering_then (key_cmp b a) o) ≡ false → a ≢ b
    → key_cmp a b ≡ Less
adjacent_less a b o h ne =
    elim (key_cmp b a) as (λ r. key_cmp b a ≡ r → is_lt (ordering_then r o) ≡ false → key_cmp a b ≡ Less) [
      | Less ↦ λ e g. absurd (cc g)
      | Equal ↦ λ e g. absurd (ne (sym (slice_cmp-IsAntisymmetric nat_cmp-IsAntisymmetric b a e)))
      | Greater ↦ λ e g. nat_list_cmp_total.antisymm a b ∙ ap ordering_reverse e
    ] refl h

module _ (names : List (List ℕ)) (siblings : List (List ℕ × ℕ))
    (permuted : IsPermutation (keyed_names names) siblings) where
  record IsSibling (s : List ℕ × ℕ) : Type 0 where
    pub keyed : s.0 ≡ key (get_or names s.1 [])
    pub inside : s.1 < length names

  each : All IsSibling siblings
  each = All-permutation IsSibling (keyed_names names) siblings permuted
      (λ k d lt.
      let l : k < length names = omega (arith, length-keyed_from 0 names) in
      let z : 0 + k ≡ k = omega arith in
      let one : IsSibling (key (get_or names k []), 0 + k) =
      record { keyed = ap (λ n. key (get_or names n [])) (sym z); inside = omega arith } in
      subst IsSibling (sym (keyed_at 0 names k d l)) one)

  pub order_permuted : IsPermutation (range_with_len 0 (length names)) (places siblings)
  order_permuted =
      subst (λ (xs : List ℕ). IsPermutation xs (places siblings)) (places-keyed_from 0 names)
      (IsPermutation-map (λ s. s.1) (keyed_names names) siblings permuted)

  flips : (x y : ℕ) → eqb x y ≡ eqb y x
  flips x y =
      elim (eqb_tells x y) [
        | inl p ↦ elim (eqb_tells y x) [ inl q ↦ p.0 ∙ sym q.0 | inr q ↦ absurd (q.1 (sym p.1)) ]
        | inr p ↦ elim (eqb_tells y x) [ inl q ↦ absurd (p.1 (sym q.1)) | inr q ↦ p.0 ∙ sym q.0 ]
      ]

  pub order_once : AreDistinct (places siblings)
  order_once =
      let range : List ℕ = range_with_len 0 (length names) in
      let apart : AreDistinct range = λ i j d lt l same.
      let n : j < length names = omega (arith, length-range_with_len 0 (length names)) in
      let a : get_or range i d ≡ 0 + i = get_or-range_with_len 0 (length names) i d (omega arith) in
      let b : get_or range j d ≡ 0 + j = get_or-range_with_len 0 (length names) j d n in
      absurd (omega (arith, a, b, same)) in
      AllPairs-from_IsDistinct Decides-eqb (places siblings)
      (IsDistinct-IsPermutation eqb flips range (places siblings) order_permuted
      (IsDistinct-from_AllPairs Decides-eqb range apart))

  pub order_inside : All (λ k. k < length names) (places siblings)
  order_inside = λ k d lt.
      let l : k < length siblings = omega (arith, length-map siblings (λ s. s.1)) in
      let s : IsSibling (get_or siblings k ([], 0)) = each k ([], 0) l in
      let e : get_or (places siblings) k d ≡ (get_or siblings k ([], 0)).1 =
      get_or-map (λ s. s.1) siblings k ([], 0) d l in
      omega (arith, e, s.inside)

  -- siblings at two places, by their names
  compared : (i j d : ℕ) (o : Ordering) → i < length siblings → j < length siblings
      → key_cmp (get_or siblings i ([], 0)).0 (get_or siblings j ([], 0)).0 ≡ o
      → name_cmp (get_or names (get_or (places siblings) i d) []) (get_or names (get_or (places siblings) j d) []) ≡ o
  compared i j d o li lj h =
      let s : List ℕ × ℕ = get_or siblings i ([], 0) in
      let t : List ℕ × ℕ = get_or siblings j ([], 0) in
      let a : IsSibling s = each i ([], 0) li in
      let b : IsSibling t = each j ([], 0) lj in
      let p : get_or (places siblings) i d ≡ s.1 = get_or-map (λ s. s.1) siblings i ([], 0) d li in
      let q : get_or (places siblings) j d ≡ t.1 = get_or-map (λ s. s.1) siblings j ([], 0) d lj in
      (λ x. name_cmp (get_or names (p x) []) (get_or names (q x) []))
      ∙ sym (keys_agree (get_or names s.1 []) (get_or names t.1 []))
      ∙ sym (λ x. key_cmp (a.keyed x) (b.keyed x)) ∙ h

  pub equal_refused : HasEqualNeighbours siblings → MayRefuseBuild names DuplicateName
  equal_refused (k, d, lt, same) =
      let a : List ℕ = (get_or siblings k ([], 0)).0 in
      let b : List ℕ = (get_or siblings (k + 1) ([], 0)).0 in
      let e : a ≡ b = ap (λ s. s.0) (get_or_default siblings k ([], 0) d (omega arith)) ∙ same
      ∙ ap (λ s. s.0) (get_or_default siblings (k + 1) d ([], 0) lt) in
      let there : key_cmp a b ≡ Equal = ap (λ x. key_cmp a x) (sym e) ∙ slice_cmp-same a in
      let back : key_cmp b a ≡ Equal = ap (λ x. key_cmp x a) (sym e) ∙ slice_cmp-same a in
      let long : length (places siblings) ≡ length siblings = length-map siblings (λ s. s.1) in
      let m : ℕ = get_or (places siblings) k 0 in
      let n : ℕ = get_or (places siblings) (k + 1) 0 in
      let m_in : m < length names = order_inside k 0 (omega arith) in
      let n_in : n < length names = order_inside (k + 1) 0 (omega arith) in
      let ne : m ≢ n = order_once k (k + 1) 0 (omega arith) (omega arith) in
      elim (cases_lt m n) [
        | inl less ↦ (m, n, less, n_in, compared k (k + 1) 0 Equal (omega arith) lt there)
        | inr greater ↦ (n, m, omega arith, m_in, compared (k + 1) k 0 Equal lt (omega arith) back)
      ]

  module _ (sorted : (k : ℕ) (d : List ℕ × ℕ) → 0 ≤ k → k + 1 < length siblings
      → is_lt (ordering_then (key_cmp (get_or siblings (k + 1) d).0 (get_or siblings k d).0)
      (nat_cmp (get_or siblings (k + 1) d).1 (get_or siblings k d).1)) ≡ false)
      (apart : AllAdjacentApart siblings) where
    later_less : (i gap : ℕ) → i + suc gap < length siblings
        → key_cmp (get_or siblings i ([], 0)).0 (get_or siblings (i + suc gap) ([], 0)).0 ≡ Less
    later_less i zero h = adjacent_less _ _ _ (sorted i ([], 0) (omega arith) h) (apart i ([], 0) h)
    later_less i (suc gap) h =
        let n : i + suc (suc gap) ≡ (i + suc gap) + 1 = omega arith in
        let l : (i + suc gap) + 1 < length siblings = omega arith in
        let a : List ℕ = (get_or siblings i ([], 0)).0 in
        let b : List ℕ = (get_or siblings (i + suc gap) ([], 0)).0 in
        let c : List ℕ = (get_or siblings ((i + suc gap) + 1) ([], 0)).0 in
        let front : key_cmp a b ≡ Less = later_less i gap (omega arith) in
        let step : key_cmp b c ≡ Less = adjacent_less _ _ _ (sorted (i + suc gap) ([], 0) (omega arith) l)
        (apart (i + suc gap) ([], 0) l) in
        ap (λ m. key_cmp a (get_or siblings m ([], 0)).0) n ∙ nat_list_cmp_total.trans a b c front step

    pub order_sorted : AllPairs (λ j k. name_cmp (get_or names j []) (get_or names k []) ≡ Less) (places siblings)
    order_sorted = λ i j d lt l.
        let n : j < length siblings = omega (arith, length-map siblings (λ s. s.1)) in
        let m : j ≡ i + suc (j - i - 1) = omega arith in
        let h : key_cmp (get_or siblings i ([], 0)).0 (get_or siblings j ([], 0)).0 ≡ Less =
        ap (λ x. key_cmp (get_or siblings i ([], 0)).0 (get_or siblings x ([], 0)).0) m
        ∙ later_less i (j - i - 1) (omega arith) in
        compared i j d Less (omega arith) n h

-- links that differ elsewhere alone
pub tree_kept : (xs ys xs' ys' : List ℕ) (top : ℕ) (ids : List ℕ) → IsTree xs ys top ids
    → ((k : ℕ) → Contains ids k → get_or xs' k 0 ≡ get_or xs k 0)
    → ((k : ℕ) → Contains ids k → get_or ys' k 0 ≡ get_or ys k 0) → IsTree xs' ys' top ids
tree_kept xs ys xs' ys' top ids nobody p q = nobody
tree_kept xs ys xs' ys' top ids (somebody k before after m a b) p q =
    let here : Contains (before ++ (k ∷ after)) k = Contains-append_right before (k ∷ after) k (0, omega arith, refl) in
    let behind : (z : ℕ) → Contains after z → Contains (before ++ (k ∷ after)) z =
    λ z c. Contains-append_right before (k ∷ after) z (Contains-append_right (k ∷ []) after z c) in
    let A : IsTree xs' ys' (get_or xs k 0) before = tree_kept xs ys xs' ys' (get_or xs k 0) before a
    (λ z c. p z (Contains-append_left before (k ∷ after) z c))
    (λ z c. q z (Contains-append_left before (k ∷ after) z c)) in
    let B : IsTree xs' ys' (get_or ys k 0) after = tree_kept xs ys xs' ys' (get_or ys k 0) after b
    (λ z c. p z (behind z c)) (λ z c. q z (behind z c)) in
    somebody k before after m (subst (λ (x : ℕ). IsTree xs' ys' x before) (sym (p k here)) A)
    (subst (λ (x : ℕ). IsTree xs' ys' x after) (sym (q k here)) B)

not_in : (ids : List ℕ) (z : ℕ) → (Contains ids z → ⊥) → All (λ m. m ≢ z) ids
not_in ids z h = λ k d lt same. h (k, lt, get_or_default ids k z d lt ∙ same)

-- both halves, and the links of the one between them
pub tree_around : (xs ys xs' ys' : List ℕ) (before after : List ℕ) (k l r : ℕ) → AreDistinct (before ++ (k ∷ after))
    → k < length xs' → k < length ys'
    → length before ≡ length (before ++ (k ∷ after)) / 2 → IsTree xs ys l before → KeepsOthers after xs xs'
    → KeepsOthers after ys ys' → IsTree xs' ys' r after
    → IsTree (set xs' k l) (set ys' k r) k (before ++ (k ∷ after))
tree_around xs ys xs' ys' before after k l r once kx ky m a kept_x kept_y b =
    let here : Contains (k ∷ after) k = (0, omega arith, refl) in
    let not_before : (z : ℕ) → Contains before z → k ≢ z = λ z c e. distinct_apart before (k ∷ after) once z c
    (subst (Contains (k ∷ after)) e here) in
    let not_after : (z : ℕ) → Contains after z → k ≢ z = λ z c e.
    distinct_apart (k ∷ []) after (distinct_behind before (k ∷ after) once) z (0, omega arith, e) c in
    let other : (zs : List ℕ) (v z : ℕ) → k ≢ z → get_or (set zs k v) z 0 ≡ get_or zs z 0 =
    λ zs v z ne. get_or-set_other zs k z v 0 (λ e. ne (sym e)) in
    let apart : (z : ℕ) → Contains before z → All (λ m. m ≢ z) after =
    λ z c. not_in after z (λ d. distinct_apart before (k ∷ after) once z c
    (Contains-append_right (k ∷ []) after z d)) in
    let A : IsTree (set xs' k l) (set ys' k r) l before = tree_kept xs ys (set xs' k l) (set ys' k r) l before a
    (λ z c. other xs' l z (not_before z c) ∙ kept_x z (apart z c))
    (λ z c. other ys' r z (not_before z c) ∙ kept_y z (apart z c)) in
    let B : IsTree (set xs' k l) (set ys' k r) r after = tree_kept xs' ys' (set xs' k l) (set ys' k r) r after b
    (λ z c. other xs' l z (not_after z c)) (λ z c. other ys' r z (not_after z c)) in
    somebody k before after m (subst (λ (x : ℕ). IsTree (set xs' k l) (set ys' k r) x before)
    (sym (get_or-set_same xs' k l 0 kx)) A)
    (subst (λ (x : ℕ). IsTree (set xs' k l) (set ys' k r) x after) (sym (get_or-set_same ys' k r 0 ky)) B)

-- what both halves keep, and the link of the one between them
pub kept_around : (order old half whole : List ℕ) (m n l : ℕ) → m < length order → KeepsOthers (take m order) old half
    → KeepsOthers (take n (drop (m + 1) order)) half whole → KeepsOthers order old (set whole (get_or order m 0) l)
kept_around order old half whole m n l lt before after z apart =
    get_or-set_other whole (get_or order m 0) z l 0 (λ e. apart m 0 lt (sym e))
    ∙ after z (All-take (λ k. k ≢ z) n (drop (m + 1) order) (All-drop (λ k. k ≢ z) (m + 1) order apart))
    ∙ before z (All-take (λ k. k ≢ z) m order apart)
