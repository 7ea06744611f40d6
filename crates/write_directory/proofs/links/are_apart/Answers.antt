use Rattle.std.proofs.Common.{◌≡◌, ◌<◌, ◌+◌, ◌-◌, ℕ, List, [], true, length, get_or, ◌∙◌, ap, sym, arith, inl, inr}
use Rattle.std.proofs.lemmas.Bool.{cases_lt}
use Rattle.std.proofs.lemmas.List.{get_or_default}
use Rattle.std.specs.Cmp.Lexicographic.{bytes_decides}
use Rattle.write_directory.proofs.links.are_apart.Goals as goal

pub returns-then-eq-clause-equal : goal.returns-then-eq-clause-equal
returns-then-eq-clause-equal c = λ _.
    let xs : List (List ℕ × ℕ) = c.args.siblings.now in
    let k : ℕ = c.loop-k.k in
    let n : k - 1 + 1 ≡ k = omega arith in
    let lt : k - 1 + 1 < length xs = omega arith in
    let p = c.index-siblings-k.result in
    let q = c.index-siblings-k-in-loop-k.result in
    let a : get_or xs (k - 1) p ≡ get_or xs (k - 1) ([], 0) = get_or_default xs (k - 1) p ([], 0) (omega arith) in
    let b : get_or xs k q ≡ get_or xs k ([], 0) = get_or_default xs k q ([], 0) (omega arith) in
    let same : (get_or xs (k - 1) p).0 ≡ (get_or xs k q).0 =
    (bytes_decides (get_or xs (k - 1) p).0 (get_or xs k q).0).0 (sym c.eq.ensures ∙ c.if-eq.true) in
    (k - 1, ([], 0), lt, sym (ap (λ s. s.0) a) ∙ same ∙ ap (λ s. s.0) b ∙ ap (λ m. (get_or xs m ([], 0)).0) (sym n))

pub loop-k-preserved : goal.loop-k-preserved
loop-k-preserved c = λ j d lt same.
    let xs : List (List ℕ × ℕ) = c.args.siblings.now in
    let k : ℕ = c.loop-k.k in
    elim (cases_lt (j + 1) k) [
      | inl below ↦ c.loop-k.invariant j d below same
      | inr at ↦
          let m : j ≡ k - 1 = omega arith in
          let n : j + 1 ≡ k = omega arith in
          let p = c.index-siblings-k.result in
          let q = c.index-siblings-k-in-loop-k.result in
          let a : get_or xs j d ≡ get_or xs (k - 1) p = ap (λ x. get_or xs x d) m
          ∙ get_or_default xs (k - 1) d p (omega arith) in
          let b : get_or xs (j + 1) d ≡ get_or xs k q = ap (λ x. get_or xs x d) n
          ∙ get_or_default xs k d q (omega arith) in
          let met : c.eq.result ≡ true =
          c.eq.ensures ∙ (bytes_decides (get_or xs (k - 1) p).0 (get_or xs k q).0).1
          (sym (ap (λ s. s.0) a) ∙ same ∙ ap (λ s. s.0) b) in
          absurd (cc (met, c.if-eq.false))
    ]
