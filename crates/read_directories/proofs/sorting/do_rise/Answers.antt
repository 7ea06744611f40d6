use Rattle.std.proofs.Common.{◌≡◌, ◌+◌, ◌-◌, ℕ, List, length, get_or, is_lt, sym, ◌∙◌, ap, arith}
use Rattle.std.proofs.lemmas.Bool.Decides.{nat_tests}
use Rattle.cfb_faults.specs.Faults.{key_at}
use Rattle.read_directories.proofs.Ordered.{DoRise, all_rise, one_more_rises}
use Rattle.read_directories.proofs.sorting.do_rise.Goals as goal

pub returns-then-is_empty-clause-ordered : goal.returns-then-is_empty-clause-ordered
returns-then-is_empty-clause-ordered c = λ t.
    let ids : List ℕ = c.args.ids.now in
    let none : length ids ≡ 0 = grind (arith, nat_tests, c.is_empty.ensures, c.if-is_empty.true) in
    all_rise c.args.entries.now.directory ids (record { rise = λ j d lt. absurd (omega (arith, none, lt)) })

pub loop-k-preserved : goal.loop-k-preserved
loop-k-preserved c =
    let dir : List ℕ = c.args.entries.now.directory in
    let ids : List ℕ = c.args.ids.now in
    let k : ℕ = c.loop-k.k in
    let here : k ≡ k + 1 - 1 = omega arith in
    let at : c.in_ok-next.next ≡ key_at dir (get_or ids k 0) = c.in_ok-next.ensures.found in (
      at ∙ ap (λ n. key_at dir (get_or ids n 0)) here,
      one_more_rises dir ids c.loop-k.last c.in_ok-next.next k (omega arith) (omega arith) c.loop-k.invariant.0 at
          (ap is_lt (sym c.cmp.ensures) ∙ sym c.is_lt.ensures ∙ c.if-not-is_lt.false) c.loop-k.invariant.1,
    )

pub returns-clause-ordered : goal.returns-clause-ordered
returns-clause-ordered c = λ t.
    let dir : List ℕ = c.args.entries.now.directory in
    let ids : List ℕ = c.args.ids.now in
    let rises : DoRise dir ids c.loop-k.k = c.loop-k.invariant.1 in
    all_rise dir ids (record { rise = λ j d lt. rises.rise j d (omega (arith, lt)) })
