use Rattle.std.proofs.Common.{arith}
use Rattle.std.proofs.lemmas.List.{get_or_default}
use Rattle.write_zeros.proofs.marks.mark_all.Goals as goal

pub loop-n-init : goal.loop-n-init
loop-n-init c = λ taken more w. w

pub loop-n-preserved : goal.loop-n-preserved
loop-n-preserved c = λ taken more w.
    c.mark.ensures taken
    (more _ (
      c.loop-n.n-index,
      omega arith,
      get_or_default c.args.numbers.now c.loop-n.n-index _ 0
          (omega arith),
    )) (c.loop-n.invariant taken more w)

pub returns : goal.returns
returns c = c.loop-n.invariant
