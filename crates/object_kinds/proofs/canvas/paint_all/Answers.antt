use Rattle.std.proofs.Common.{ap, sym, ◌∙◌}
use Rattle.object_core.specs.Pictures.{painted}
use Rattle.object_kinds.specs.Drawn.{shape_told}
use Rattle.object_kinds.proofs.Over.{glyph_over-more}
use Rattle.object_kinds.proofs.canvas.paint_all.Goals as goal

pub loop-figure-preserved : goal.loop-figure-preserved
loop-figure-preserved c column row narrow low =
    c.paint.ensures column row narrow low
    ∙ ap (painted (shape_told _) column row) (c.loop-figure.invariant column row narrow low)
    ∙ sym (glyph_over-more c.args.figures.now c.loop-figure.figure-index _ column row _ c.loop-figure-test.true)
