use Rattle.std.proofs.Common.{◌≡◌, ◌<◌, ◌+◌, ◌∙◌, inl, inr, ℕ, List, arith, ap, get_or, length, refl, subst, sym, take}
use Rattle.std.proofs.lemmas.Bool.{cases_lt, eqb-false, eqb-true}
use Rattle.std.proofs.lemmas.List.{get_or-take, get_or_default, length-take-le}
use Rattle.tell_faults.proofs.fat_faults.is_any_twice.Goals as goal

pub loop-k-init : goal.loop-k-init
loop-k-init c = λ i j d lt below. absurd (omega arith)

pub returns-then-contains-clause-twice : goal.returns-then-contains-clause-twice
returns-then-contains-clause-twice c = λ _ apart.
    let xs : List ℕ = c.args.sectors.now in
    let k : ℕ = c.loop-k.k in
    let met = c.if-contains.ensures.cases in
    let long : length (take k xs) ≡ k = length-take-le k xs (omega (arith, c.loop-k-test.true)) in
    let inside : met.0 < k = omega (arith, met.1) in
    let same : get_or xs met.0 0 ≡ get_or xs k 0 = sym (get_or-take k xs met.0 0 inside)
    ∙ eqb-true (get_or (take k xs) met.0 0) (get_or xs k 0) (met.2 0) in
    apart met.0 k 0 inside c.loop-k-test.true same

pub loop-k-preserved : goal.loop-k-preserved
loop-k-preserved c =
    let xs : List ℕ = c.args.sectors.now in
    let k : ℕ = c.loop-k.k in
    λ i j d lt below e.
    elim (cases_lt j k) [
      | inl less ↦ c.loop-k.invariant i j d lt less e
      | inr more ↦
          let here : j ≡ k = omega arith in
          let long : length (take k xs) ≡ k = length-take-le k xs (omega (arith, c.loop-k-test.true)) in
          let inside : i < k = omega arith in
          let same : get_or (take k xs) i 0 ≡ get_or xs k 0 =
          get_or-take k xs i 0 inside ∙ get_or_default xs i 0 d (omega (arith, c.loop-k-test.true)) ∙ e
          ∙ ap (λ m. get_or xs m d) here
          ∙ get_or_default xs k d 0 c.loop-k-test.true in
          eqb-false (get_or (take k xs) i 0) (get_or xs k 0)
          (c.if-contains.ensures.cases i 0 (omega arith) (omega arith)) same
    ]

pub returns-clause-once : goal.returns-clause-once
returns-clause-once c = λ _ i j d lt below e. c.loop-k.invariant i j d lt (omega (arith, c.loop-k-test.false)) e
