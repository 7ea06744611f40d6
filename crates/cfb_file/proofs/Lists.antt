-- Lists in a strict order.
use Rattle.std.proofs.Common.{◌≡◌, zero, suc, List, [], ◌∷◌, ◌⊎◌, inl, inr, map, refl, sym, ◌∙◌, ap, subst, arith}
use Rattle.std.specs.List.{AllByRecursion, Contains}
use Rattle.std.specs.List.Sorted.{IsStrictlySortedBy}
use Rattle.std.specs.Ordering.{ordering_reverse}
use Rattle.std.specs.Cmp.{IsTotalOrder}
use Rattle.std.specs.declared.cmp.Ordering.{Ordering}
use Rattle.std.specs.declared.cmp.Ordering.TheVariants.{Less}

-- what stands in a list with one more at the front
pub Contains-cons_cases : {X : Type 0} (x : X) (xs : List X) (z : X) → Contains (x ∷ xs) z → (x ≡ z) ⊎ Contains xs z
Contains-cons_cases x xs z (zero, lt, is) = inl is
Contains-cons_cases x xs z (suc k, lt, is) = inr (k, omega arith, is)

pub Contains-front : {X : Type 0} (x : X) (xs : List X) → Contains (x ∷ xs) x
Contains-front x xs = (0, omega arith, refl)

pub Contains-behind : {X : Type 0} (x : X) (xs : List X) (z : X) → Contains xs z → Contains (x ∷ xs) z
Contains-behind x xs z (k, lt, is) = (suc k, omega arith, is)

-- what stands in a mapped list
pub Contains-from_map : {X Y : Type 0} (f : X → Y) (xs : List X) (y : Y) → Contains (map f xs) y
    → (x : X) × Contains xs x × (f x ≡ y)
Contains-from_map f [] y (k, lt, is) = absurd (omega arith)
Contains-from_map f (x ∷ xs) y c =
    elim (Contains-cons_cases (f x) (map f xs) y c) [
      | inl e ↦ (x, Contains-front x xs, e)
      | inr d ↦ let r : _ = Contains-from_map f xs y d in (r.0, Contains-behind x xs r.0 r.1, r.2)
    ]

pub Contains-map : {X Y : Type 0} (f : X → Y) (xs : List X) (x : X) → Contains xs x → Contains (map f xs) (f x)
Contains-map f [] x (k, lt, is) = absurd (omega arith)
Contains-map f (w ∷ xs) x c =
    elim (Contains-cons_cases w xs x c) [
      | inl e ↦ (0, omega arith, ap f e)
      | inr d ↦ Contains-behind (f w) (map f xs) (f x) (Contains-map f xs x d)
    ]

-- what holds of each element, by recursion, holds of one that is there
pub each_contained : {X : Type 0} (P : X → Type 0) (xs : List X) (z : X) → AllByRecursion P xs → Contains xs z → P z
each_contained P [] z all (k, lt, is) = absurd (omega arith)
each_contained P (x ∷ xs) z all c =
    elim (Contains-cons_cases x xs z c) [ inl e ↦ subst P e all.0 | inr d ↦ each_contained P xs z all.1 d ]

module _ {X K : Type 0} (key : X → K) (R : K → K → Ordering) (o : IsTotalOrder R) where
  asymmetric : (x y : K) → R x y ≡ Less → R y x ≡ Less → ⊥
  asymmetric x y h i = let e : R x y ≡ ordering_reverse (R y x) = o.antisymm x y in
      let f : Less ≡ ordering_reverse Less = sym h ∙ e ∙ ap ordering_reverse i in cc f

  -- what stands behind a key is greater
  behind : (x : X) (xs : List X) (z : X) → AllByRecursion (λ k. R (key x) k ≡ Less) (map key xs) → Contains xs z
      → R (key x) (key z) ≡ Less
  behind x xs z s c = each_contained (λ k. R (key x) k ≡ Less) (map key xs) (key z) s (Contains-map key xs z c)

  same_head : (x : X) (xs : List X) (y : X) (ys : List X) → AllByRecursion (λ k. R (key x) k ≡ Less) (map key xs)
      → AllByRecursion (λ k. R (key y) k ≡ Less) (map key ys) → Contains (y ∷ ys) x → Contains (x ∷ xs) y → x ≡ y
  same_head x xs y ys s t c d =
      elim (Contains-cons_cases y ys x c) [
        | inl e ↦ sym e
        | inr c' ↦ elim (Contains-cons_cases x xs y d) [
          | inl e ↦ e
          | inr d' ↦ absurd (asymmetric (key x) (key y) (behind x xs y s d') (behind y ys x t c'))
        ]
      ]

  -- what stands behind the one head stands behind the other
  same_tail : (x : X) (xs : List X) (y : X) (ys : List X) → x ≡ y
      → AllByRecursion (λ k. R (key x) k ≡ Less) (map key xs)
      → ((z : X) → Contains (x ∷ xs) z → Contains (y ∷ ys) z) → (z : X) → Contains xs z → Contains ys z
  same_tail x xs y ys e s f z c =
      elim (Contains-cons_cases y ys z (f z (Contains-behind x xs z c))) [
        | inr d ↦ d
        | inl i ↦
            let less : R (key x) (key z) ≡ Less = behind x xs z s c in
            let same : key z ≡ key x = ap key (sym (e ∙ i)) in
            let P : K → Type 0 = λ k. R (key x) k ≡ Less in
            absurd (asymmetric (key x) (key x) (subst P same less) (subst P same less))
      ]

  -- two lists in strict order with the same elements are one
  pub sorted_unique : (xs ys : List X) → IsStrictlySortedBy R (map key xs) → IsStrictlySortedBy R (map key ys)
      → ((z : X) → Contains xs z → Contains ys z) → ((z : X) → Contains ys z → Contains xs z) → xs ≡ ys
  unfolding IsStrictlySortedBy
  sorted_unique [] [] s t f g = refl
  sorted_unique [] (y ∷ ys) s t f g = absurd (let c : Contains [] y = g y (Contains-front y ys) in omega (arith, c.1))
  sorted_unique (x ∷ xs) [] s t f g = absurd (let c : Contains [] x = f x (Contains-front x xs) in omega (arith, c.1))
  sorted_unique (x ∷ xs) (y ∷ ys) s t f g =
      let e : x ≡ y = same_head x xs y ys s.0 t.0 (f x (Contains-front x xs)) (g y (Contains-front y ys)) in
      let r : xs ≡ ys = sorted_unique xs ys s.1 t.1 (same_tail x xs y ys e s.0 f) (same_tail y ys x xs (sym e) t.0 g) in
      cc
