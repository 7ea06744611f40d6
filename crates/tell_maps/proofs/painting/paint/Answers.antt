use Rattle.std.proofs.Common.{◌∙◌, refl, arith}
use Rattle.tell_maps.proofs.Cells.{paint_end, paint_step}
use Rattle.tell_maps.proofs.painting.paint.Goals as goal

pub loop-n-preserved : goal.loop-n-preserved
loop-n-preserved c = (
  c.put.ensures.len ∙ c.loop-n.invariant.0,
  paint_step (λ _. c.args.mark) c.args.sectors.now c.loop-n.n-index _ c.args.cells.now.items c.loop-n.cells.items
      c.put.new.cells.items (omega arith) refl c.loop-n.invariant.0
      c.put.ensures.each c.loop-n.invariant.1,
)

pub returns-clause-each : goal.returns-clause-each
returns-clause-each c = paint_end (λ _. c.args.mark) c.args.sectors.now c.loop-n.n-index c.args.cells.now.items
    c.loop-n.cells.items (omega arith) c.loop-n.invariant.1
