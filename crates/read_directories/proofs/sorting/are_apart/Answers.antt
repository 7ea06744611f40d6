use Rattle.std.proofs.Common.{◌≡◌, ◌<◌, ◌+◌, ◌-◌, ℕ, List, true, length, get_or, ◌∙◌, ap, sym, arith, inl, inr}
use Rattle.std.proofs.lemmas.Bool.{cases_lt}
use Rattle.std.proofs.lemmas.List.{get_or_default}
use Rattle.std.specs.Cmp.Lexicographic.{bytes_decides}
use Rattle.read_directories.proofs.sorting.are_apart.Goals as goal

pub returns-then-eq-clause-equal : goal.returns-then-eq-clause-equal
returns-then-eq-clause-equal c = λ _.
    let k : ℕ = c.loop-k.k in
    let n : k - 1 + 1 ≡ k = omega arith in
    let lt : k - 1 + 1 < length c.args.list.now = omega arith in
    let xs : List (List ℕ × ℕ) = c.args.list.now in
    let p : List ℕ × ℕ = c.index-list-k.result in
    let q : List ℕ × ℕ = c.index-list-k-in-loop-k.result in
    let same : (get_or xs (k - 1) p).0 ≡ (get_or xs k q).0 =
    (bytes_decides (get_or xs (k - 1) p).0 (get_or xs k q).0).0 (sym c.eq.ensures ∙ c.if-eq.true) in
    let last : get_or xs k q ≡ get_or xs (k - 1 + 1) p = get_or_default xs k q p (omega arith)
    ∙ ap (λ m. get_or xs m p) (sym n) in
    (k - 1, p, lt, same ∙ ap (λ x. x.0) last)

pub loop-k-preserved : goal.loop-k-preserved
loop-k-preserved c = λ j d lt same.
    let xs : List (List ℕ × ℕ) = c.args.list.now in
    let k : ℕ = c.loop-k.k in
    elim (cases_lt (j + 1) k) [
      | inl below ↦ c.loop-k.invariant j d below same
      | inr at ↦
          let m : j ≡ k - 1 = omega arith in
          let n : j + 1 ≡ k = omega arith in
          let a : get_or xs j d ≡ get_or xs (k - 1) c.index-list-k.result = ap (λ x. get_or xs x d) m
          ∙ get_or_default xs (k - 1) d c.index-list-k.result (omega arith) in
          let b : get_or xs (j + 1) d ≡ get_or xs k c.index-list-k-in-loop-k.result = ap (λ x. get_or xs x d) n
          ∙ get_or_default xs k d c.index-list-k-in-loop-k.result (omega arith) in
          let p : List ℕ × ℕ = c.index-list-k.result in
          let q : List ℕ × ℕ = c.index-list-k-in-loop-k.result in
          let met : c.eq.result ≡ true =
          c.eq.ensures ∙ (bytes_decides (get_or xs (k - 1) p).0 (get_or xs k q).0).1
          (sym (ap (λ s. s.0) a) ∙ same ∙ ap (λ s. s.0) b) in
          absurd (cc (met, c.if-eq.false))
    ]
