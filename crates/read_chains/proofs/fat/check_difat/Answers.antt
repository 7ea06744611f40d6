use Rattle.std.proofs.Common.{◌≡◌, ◌<◌, ◌+◌, ◌∙◌, inl, inr, ℕ, List, arith, ap, get_or, length, refl, subst, sym, take}
use Rattle.std.proofs.lemmas.Bool.{cases_lt, eqb-false, eqb-true}
use Rattle.std.proofs.lemmas.List.{get_or-take, get_or_default, length-take-le}
use Rattle.std.specs.List.{All}
use Rattle.cfb_chains.specs.Chain.{AreDistinct}
use Rattle.read_chains.proofs.fat.check_difat.Goals as goal

-- one more of them is in the file
each : (xs : List ℕ) (k count : ℕ) → k < length xs → ((i d : ℕ) → i < k → get_or xs i d < count)
    → get_or xs k 0 < count → (i d : ℕ) → i < k + 1 → get_or xs i d < count
each xs k count lt before here i d l =
    elim (cases_lt i k) [
      | inl less ↦ before i d less
      | inr more ↦
          let at : i ≡ k = omega (arith, l, more) in
          subst (λ n. n < count) (get_or_default xs k 0 d lt ∙ ap (λ m. get_or xs m d) (sym at)) here
    ]

front_present : (xs : List ℕ) (k count : ℕ) → k < length xs → ((i d : ℕ) → i < k → get_or xs i d < count)
    → get_or xs k 0 < count → All (λ n. n < count) (take (k + 1) xs)
front_present xs k count lt before here i d l =
    let long : length (take (k + 1) xs) ≡ k + 1 = length-take-le (k + 1) xs (omega (arith, lt)) in
    let inside : i < k + 1 = omega (arith, l, long) in
    subst (λ n. n < count) (sym (get_or-take (k + 1) xs i d inside)) (each xs k count lt before here i d inside)

comes_back : (xs : List ℕ) (k i : ℕ) → i < k → k < length xs → get_or xs i 0 ≡ get_or xs k 0
    → AreDistinct (take (k + 1) xs) → ⊥
comes_back xs k i lt l e apart =
    let long : length (take (k + 1) xs) ≡ k + 1 = length-take-le (k + 1) xs (omega (arith, l)) in
    apart i k 0 lt (omega (arith, long)) (get_or-take (k + 1) xs i 0 (omega (arith, lt)) ∙ e
    ∙ sym (get_or-take (k + 1) xs k 0 (omega arith)))

pub loop-k-init : goal.loop-k-init
loop-k-init c = record {
  apart = λ i j d lt below. absurd (omega arith);
  present = λ i d lt. absurd (omega (arith, lt));
}

pub returns-then-contains-clause-refused : goal.returns-then-contains-clause-refused
returns-then-contains-clause-refused c =
    let xs : List ℕ = c.args.difat.now in
    let k : ℕ = c.loop-k.k in
    let met = c.if-contains.ensures.cases in
    let long : length (take k xs) ≡ k = length-take-le k xs (omega (arith, c.loop-k-test.true)) in
    let inside : met.0 < k = omega (arith, met.1) in
    let same : get_or xs met.0 0 ≡ get_or xs k 0 = sym (get_or-take k xs met.0 0 inside)
    ∙ eqb-true (get_or (take k xs) met.0 0) (get_or xs k 0) (met.2 0) in
    let here : get_or xs k 0 < c.args.count = omega (arith, c.if-difat-k.false) in
    inr (
      refl,
      (
        k + 1,
        front_present xs k c.args.count c.loop-k-test.true c.loop-k.invariant.present here,
        comes_back xs k met.0 inside c.loop-k-test.true same,
      ),
    )

pub loop-k-preserved : goal.loop-k-preserved
loop-k-preserved c =
    let xs : List ℕ = c.args.difat.now in
    let k : ℕ = c.loop-k.k in
    let here : get_or xs k 0 < c.args.count = omega (arith, c.if-difat-k.false) in
    record {
      apart = λ i j d lt below e.
          elim (cases_lt j k) [
            | inl less ↦ c.loop-k.invariant.apart i j d lt less e
            | inr more ↦
                let here : j ≡ k = omega arith in
                let long : length (take k xs) ≡ k = length-take-le k xs (omega (arith, c.loop-k-test.true)) in
                let inside : i < k = omega arith in
                let same : get_or (take k xs) i 0 ≡ get_or xs k 0 =
                get_or-take k xs i 0 inside ∙ get_or_default xs i 0 d (omega (arith, c.loop-k-test.true)) ∙ e
                ∙ ap (λ m. get_or xs m d) here
                ∙ get_or_default xs k d 0 c.loop-k-test.true in
                eqb-false (get_or (take k xs) i 0) (get_or xs k 0)
                (c.if-contains.ensures.cases i 0 (omega arith) (omega arith)) same
          ];
      present = λ i d l. each xs k c.args.count c.loop-k-test.true c.loop-k.invariant.present here i d l;
    }

pub returns-clause-apart : goal.returns-clause-apart
returns-clause-apart c = λ i j d lt below e. c.loop-k.invariant.apart i j d lt (omega (arith, c.loop-k-test.false)) e

pub returns-clause-present : goal.returns-clause-present
returns-clause-present c = λ i d l. c.loop-k.invariant.present i d (omega (arith, c.loop-k-test.false, l))
