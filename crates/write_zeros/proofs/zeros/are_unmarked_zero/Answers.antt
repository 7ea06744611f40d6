use Rattle.std.proofs.Common.{◌+◌, refl, arith}
use Rattle.write_zeros.proofs.Blocks.{at_more, zero_all, zero_more}
use Rattle.write_zeros.proofs.zeros.are_unmarked_zero.Goals as goal

pub loop-at-preserved : goal.loop-at-preserved
loop-at-preserved c =
    let i = c.loop-at.invariant in (
      at_more c.loop-at.n c.loop-at.at _ c.args.start c.args.width i.0 refl,
      zero_more c.loop-at.n c.loop-at.at c.args.start c.args.width c.args.bytes.now c.args.marks.now i.0
          (c.is_marked_or_zero.ensures c.if-not-is_marked_or_zero.false) i.1,
    )

pub returns : goal.returns
returns c = λ t.
    zero_all c.loop-at.n c.loop-at.at c.args.start c.args.width c.args.bytes.now c.args.marks.now
    c.loop-at.invariant.0 (omega arith) c.loop-at.invariant.1
