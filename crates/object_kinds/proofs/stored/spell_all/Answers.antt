use Rattle.object_kinds.proofs.Over.{spelled-more}
use Rattle.object_kinds.proofs.stored.spell_all.Goals as goal

pub loop-figure-preserved : goal.loop-figure-preserved
loop-figure-preserved c =
    spelled-more c.args.figures.now c.loop-figure.figure-index _ _ _ c.loop-figure-test.true
    c.in_ok-push_line.ensures c.loop-figure.invariant
