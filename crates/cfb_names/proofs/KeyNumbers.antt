-- Keys eight bytes at a time, as numbers that are ordered as the bytes are.
use Rattle.std.proofs.Common.{◌≡◌, ◌<◌, ◌≤◌, ◌+◌, ◌*◌, true, false, ℕ, zero, suc, List, [], ◌∷◌, length, get_or, take}
use Rattle.std.proofs.Common.{drop, nat_cmp, refl, sym, ◌∙◌, ap, subst, arith}
use Rattle.std.proofs.Math.Seq.{drop-cons}
use Rattle.std.proofs.lemmas.List.{drop-drop, drop_all, get_or-drop, length-drop}
use Rattle.std.specs.Cmp.{nat_cmp_is, ranks}
use Rattle.std.specs.Cmp.Lexicographic.{slice_cmp}
use Rattle.std.specs.FinMap.{nat_cmp-IsAntisymmetric}
use Rattle.std.specs.Ordering.{MatchOrdering, is_ne, ordering_then}
use Rattle.std.specs.declared.cmp.Ordering.{Ordering}
use Rattle.std.specs.declared.cmp.Ordering.TheVariants.{Less, Equal, Greater}
use Rattle.cfb_names.specs.Numbers.{AreBytes, eight, spelled}

abbrev Bytes : List ℕ → Type 0
Bytes xs = (k : ℕ) → get_or xs k 0 < 256

-- the greater number stays greater with as many bytes behind it
rises : (n a b : ℕ) (us vs : List ℕ) → n ≤ length us → n ≤ length vs → Bytes us → a < b
    → spelled a (take n us) < spelled b (take n vs)
rises zero a b us vs p q h l = l
rises (suc n) a b [] vs p q h l = absurd (omega arith)
rises (suc n) a b (u ∷ us) [] p q h l = absurd (omega arith)
rises (suc n) a b (u ∷ us) (v ∷ vs) p q h l =
    let small : u < 256 = h 0 in
    rises n (a * 256 + u) (b * 256 + v) us vs (omega arith) (omega arith) (λ k. h (suc k)) (omega (arith, small))

less_than : (u v : ℕ) → nat_cmp u v ≡ Less → u < v
less_than u v e = subst (λ (o : Ordering). MatchOrdering o (u < v) (u ≡ v) (v < u)) e (ranks u v)

greater_than : (u v : ℕ) → nat_cmp u v ≡ Greater → v < u
greater_than u v e = subst (λ (o : Ordering). MatchOrdering o (u < v) (u ≡ v) (v < u)) e (ranks u v)

abbrev rest_of : ℕ → ℕ → List ℕ → List ℕ → Ordering
rest_of n a us vs = ordering_then (nat_cmp (spelled a (take n us)) (spelled a (take n vs)))
    (slice_cmp nat_cmp (drop n us) (drop n vs))

-- so the first bytes may be compared as a number
front : (n a : ℕ) (us vs : List ℕ) → n ≤ length us → n ≤ length vs → Bytes us → Bytes vs
    → rest_of n a us vs ≡ slice_cmp nat_cmp us vs
front zero a us vs p q g h = ap (λ o. ordering_then o (slice_cmp nat_cmp us vs)) (sym (nat_cmp_is a a Equal refl))
front (suc n) a [] vs p q g h = absurd (omega arith)
front (suc n) a (u ∷ us) [] p q g h = absurd (omega arith)
front (suc n) a (u ∷ us) (v ∷ vs) p q g h =
    let us_bytes : Bytes us = λ k. g (suc k) in
    let vs_bytes : Bytes vs = λ k. h (suc k) in
    let tail : Ordering = slice_cmp nat_cmp (drop n us) (drop n vs) in
    elim (nat_cmp u v) as (λ o. nat_cmp u v ≡ o
    → ordering_then (nat_cmp (spelled (a * 256 + u) (take n us)) (spelled (a * 256 + v) (take n vs))) tail
    ≡ ordering_then o (slice_cmp nat_cmp us vs)) [
      | Less ↦ λ e.
          let lt : u < v = less_than u v e in
          let up : spelled (a * 256 + u) (take n us) < spelled (a * 256 + v) (take n vs) =
          rises n (a * 256 + u) (a * 256 + v) us vs (omega arith) (omega arith) us_bytes (omega (arith, lt)) in
          ap (λ o. ordering_then o tail) (sym (nat_cmp_is _ _ Less up))
      | Equal ↦ λ e.
          let same : u ≡ v = nat_cmp-IsAntisymmetric u v e in
          ap (λ z. ordering_then (nat_cmp (spelled (a * 256 + u) (take n us)) (spelled (a * 256 + z) (take n vs)))
          tail) (sym same)
          ∙ front n (a * 256 + u) us vs (omega arith) (omega arith) us_bytes vs_bytes
      | Greater ↦ λ e.
          let gt : v < u = greater_than u v e in
          let up : spelled (a * 256 + v) (take n vs) < spelled (a * 256 + u) (take n us) =
          rises n (a * 256 + v) (a * 256 + u) vs us (omega arith) (omega arith) vs_bytes (omega (arith, gt)) in
          ap (λ o. ordering_then o tail) (sym (nat_cmp_is _ _ Greater up))
    ] refl

bytes_behind : (at : ℕ) (xs : List ℕ) → Bytes xs → Bytes (drop at xs)
bytes_behind at xs h k = subst (λ (x : ℕ). x < 256) (sym (get_or-drop at xs k 0)) (h (at + k))

-- eight more bytes
compared : (at : ℕ) (xs ys : List ℕ) → at + 8 ≤ length xs → at + 8 ≤ length ys → Bytes xs → Bytes ys
    → ordering_then (nat_cmp (eight xs at) (eight ys at)) (slice_cmp nat_cmp (drop (at + 8) xs) (drop (at + 8) ys))
    ≡ slice_cmp nat_cmp (drop at xs) (drop at ys)
unfolding eight
compared at xs ys p q g h =
    let a : drop 8 (drop at xs) ≡ drop (at + 8) xs = drop-drop 8 at xs in
    let b : drop 8 (drop at ys) ≡ drop (at + 8) ys = drop-drop 8 at ys in
    (λ t. ordering_then (nat_cmp (eight xs at) (eight ys at)) (slice_cmp nat_cmp (sym a t) (sym b t)))
    ∙ front 8 0 (drop at xs) (drop at ys) (omega (arith, p, length-drop at xs))
    (omega (arith, q, length-drop at ys)) (bytes_behind at xs g) (bytes_behind at ys h)

-- as they are read
one_more : (n at : ℕ) (xs : List ℕ) → at < length xs → take (suc n) (drop at xs) ≡ get_or xs at 0
    ∷ take n (drop (at + 1) xs)
one_more n at xs lt =
    let next : suc at ≡ at + 1 = omega arith in
    ap (take (suc n)) (drop-cons xs at 0 lt) ∙ ap (λ m. get_or xs at 0 ∷ take n (drop m xs)) next

read_out : (at : ℕ) (xs : List ℕ) → at + 8 ≤ length xs → take 8 (drop at xs)
    ≡ get_or xs at 0 ∷ get_or xs (at + 1) 0 ∷ get_or xs (at + 2) 0 ∷ get_or xs (at + 3) 0 ∷ get_or xs (at + 4) 0
    ∷ get_or xs (at + 5) 0 ∷ get_or xs (at + 6) 0
    ∷ get_or xs (at + 7) 0 ∷ []
read_out at xs le =
    let step = λ (n k : ℕ) (lt : k < 8). let m : at + k + 1 ≡ at + (k + 1) = omega arith in
    one_more n (at + k) xs (omega (arith, le, lt)) ∙ ap (λ j. get_or xs (at + k) 0 ∷ take n (drop j xs)) m in
    one_more 7 at xs (omega (arith, le))
    ∙ ap (λ l. get_or xs at 0 ∷ l) (step 6 1 (omega arith)
    ∙ ap (λ l. get_or xs (at + 1) 0 ∷ l) (step 5 2 (omega arith)
    ∙ ap (λ l. get_or xs (at + 2) 0 ∷ l) (step 4 3 (omega arith)
    ∙ ap (λ l. get_or xs (at + 3) 0 ∷ l) (step 3 4 (omega arith)
    ∙ ap (λ l. get_or xs (at + 4) 0 ∷ l) (step 2 5 (omega arith)
    ∙ ap (λ l. get_or xs (at + 5) 0 ∷ l) (step 1 6 (omega arith)
    ∙ ap (λ l. get_or xs (at + 6) 0 ∷ l) (step 0 7 (omega arith))))))))

pub eight_are : (at : ℕ) (xs : List ℕ) → at + 8 ≤ length xs
    → get_or xs at 0 * 72057594037927936 + get_or xs (at + 1) 0 * 281474976710656 + get_or xs (at + 2) 0
    * 1099511627776 + get_or xs (at + 3) 0 * 4294967296
    + get_or xs (at + 4) 0 * 16777216 + get_or xs (at + 5) 0 * 65536 + get_or xs (at + 6) 0 * 256
    + get_or xs (at + 7) 0 ≡ eight xs at
unfolding eight
eight_are at xs le = omega arith ∙ sym (ap (spelled 0) (read_out at xs le))

-- how keys compare from a byte on
abbrev Behind : ℕ → List ℕ → List ℕ → Ordering
Behind at xs ys = slice_cmp nat_cmp (drop at xs) (drop at ys)

settles : (o p : Ordering) → is_ne o ≡ true → ordering_then o p ≡ o
settles Less p e = refl
settles Equal p e = absurd (cc e)
settles Greater p e = refl

passes : (o p : Ordering) → is_ne o ≡ false → ordering_then o p ≡ p
passes Less p e = absurd (cc e)
passes Equal p e = refl
passes Greater p e = absurd (cc e)

ends : (o : Ordering) → ordering_then o Equal ≡ o
ends Less = refl
ends Equal = refl
ends Greater = refl

module _ (xs ys : List ℕ) (g : AreBytes xs) (h : AreBytes ys) where
  step : (at : ℕ) (o : Ordering) → at + 8 ≤ 32 → o ≡ nat_cmp (eight xs at) (eight ys at)
      → ordering_then o (Behind (at + 8) xs ys) ≡ Behind at xs ys
  step at o lt is =
      ap (λ p. ordering_then p (Behind (at + 8) xs ys)) is
      ∙ compared at xs ys (omega (arith, g.count, lt)) (omega (arith, h.count, lt)) g.small h.small

  -- eight bytes that differ decide
  pub decided : (at : ℕ) (o : Ordering) → at + 8 ≤ 32 → o ≡ nat_cmp (eight xs at) (eight ys at) → is_ne o ≡ true
      → o ≡ Behind at xs ys
  decided at o lt is differs = sym (settles o (Behind (at + 8) xs ys) differs) ∙ step at o lt is

  -- where they don't, those behind them do
  pub passed : (at : ℕ) (o : Ordering) → at + 8 ≤ 32 → o ≡ nat_cmp (eight xs at) (eight ys at) → is_ne o ≡ false
      → Behind (at + 8) xs ys ≡ Behind at xs ys
  passed at o lt is same = sym (passes o (Behind (at + 8) xs ys) same) ∙ step at o lt is

  -- and none are behind the last
  pub decided_last : (o : Ordering) → o ≡ nat_cmp (eight xs 24) (eight ys 24) → o ≡ Behind 24 xs ys
  decided_last o is =
      let none : Behind 32 xs ys ≡ Equal =
      (λ t. slice_cmp nat_cmp (drop_all 32 xs (omega (arith, g.count)) t)
      (drop_all 32 ys (omega (arith, h.count)) t)) in
      sym (ends o) ∙ ap (ordering_then o) (sym none) ∙ step 24 o (omega arith) is
