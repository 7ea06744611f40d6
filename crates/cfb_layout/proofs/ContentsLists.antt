-- Lists of distinct numbers.
use Rattle.std.proofs.Common.{◌<◌, ◌≤◌, ◌+◌, ◌↔◌, inl, inr, ℕ, zero, suc, List, [], ◌∷◌, ◌++◌, length, get_or, sym}
use Rattle.std.proofs.Common.{subst, arith}
use Rattle.std.proofs.Math.Nat.{eq-or-lt_of_le}
use Rattle.std.proofs.lemmas.List.Elements.{Contains-append_cases}
use Rattle.std.specs.List.{Contains, range_with_len}
use Rattle.cfb_chains.specs.Chain.{AreDistinct}
use Rattle.cfb_file.proofs.Lists.{Contains-cons_cases, Contains-front, Contains-behind}

pub distinct-nil : AreDistinct []
distinct-nil i j d h l = absurd (omega arith)

contains_at : (xs : List ℕ) (k d : ℕ) → k < length xs → Contains xs (get_or xs k d)
contains_at [] k d l = absurd (omega arith)
contains_at (x ∷ xs) zero d l = Contains-front x xs
contains_at (x ∷ xs) (suc k) d l = Contains-behind x xs (get_or xs k d) (contains_at xs k d (omega arith))

pub distinct-cons : (x : ℕ) (xs : List ℕ) → (Contains xs x → ⊥) → AreDistinct xs → AreDistinct (x ∷ xs)
distinct-cons x xs out h zero zero d lt l = absurd (omega arith)
distinct-cons x xs out h zero (suc j) d lt l =
    λ e. let P : ℕ → Type 0 = λ y. Contains xs y in out (subst P (sym e) (contains_at xs j d (omega arith)))
distinct-cons x xs out h (suc i) zero d lt l = absurd (omega arith)
distinct-cons x xs out h (suc i) (suc j) d lt l = h i j d (omega arith) (omega arith)

distinct_tail : (x : ℕ) (xs : List ℕ) → AreDistinct (x ∷ xs) → AreDistinct xs
distinct_tail x xs h i j d lt l = h (suc i) (suc j) d (omega arith) (omega arith)

distinct_head : (x : ℕ) (xs : List ℕ) → AreDistinct (x ∷ xs) → Contains xs x → ⊥
distinct_head x xs h (k, lt, is) = h 0 (suc k) x (omega arith) (omega arith) (sym is)

pub distinct-append : (xs ys : List ℕ) → AreDistinct xs → AreDistinct ys
    → ((z : ℕ) → Contains xs z → Contains ys z → ⊥) → AreDistinct (xs ++ ys)
distinct-append [] ys h i apart = i
distinct-append (x ∷ xs) ys h i apart =
    distinct-cons x (xs ++ ys)
    (λ c. elim (Contains-append_cases xs ys x c) [
      | inl a ↦ distinct_head x xs h a
      | inr b ↦ apart x (Contains-front x xs) b
    ])
    (distinct-append xs ys (distinct_tail x xs h) i (λ z a b. apart z (Contains-behind x xs z a) b))

pub contains_range : (at n z : ℕ) → Contains (range_with_len at n) z ↔ ((at ≤ z) × (z < at + n))
contains_range at zero z = (λ c. absurd (omega (arith, c.1)), λ w. absurd (omega arith))
contains_range at (suc n) z =
    let rest : _ = contains_range (at + 1) n z in (
      λ c. elim (Contains-cons_cases at (range_with_len (at + 1) n) z c) [
        | inl e ↦ (omega arith, omega arith)
        | inr d ↦ (omega (arith, (rest.0 d).0), omega (arith, (rest.0 d).1))
      ],
      λ w. elim (eq-or-lt_of_le {n = at} {m = z} w.0) [
        | inl e ↦ let P : ℕ → Type 0 = λ y. Contains (range_with_len at (suc n)) y in
            subst P e (Contains-front at (range_with_len (at + 1) n))
        | inr l ↦ Contains-behind at (range_with_len (at + 1) n) z (rest.1 (omega arith, omega (arith, w.1)))
      ],
    )

pub distinct_range : (at n : ℕ) → AreDistinct (range_with_len at n)
distinct_range at zero = distinct-nil
distinct_range at (suc n) = distinct-cons at (range_with_len (at + 1) n)
    (λ c. let r : _ = (contains_range (at + 1) n at).0 c in omega (arith, r.0)) (distinct_range (at + 1) n)
