use Rattle.std.proofs.Common.{rules, ◌∙◌}
use Rattle.container_core.specs.View.{strip_view}
use Rattle.container_core.proofs.Painting.{painted_step}
use Rattle.container_core.proofs.cells.paint.Goals as goal

pub loop-i-preserved : goal.loop-i-preserved
loop-i-preserved c = record {
  same_length = search rules;
  same = painted_step c.args.area (strip_view c.args.strip) c.loop-i.i c.paint_cell.new.c c.loop-i.i c.loop-i.row
      (search rules) c.paint_cell.ensures ∙ c.loop-i.invariant.same;
}
