use Rattle.std.proofs.Common.{◌+◌, ◌-◌, arith, ap, ◌∙◌}
use Rattle.object_kinds.specs.Canvases.{along, downward, edge}
use Rattle.object_kinds.proofs.Boxed.{box_painted}
use Rattle.object_kinds.proofs.canvas.paint_box.Goals as goal

pub returns : goal.returns
returns c column row narrow low =
    let x = c.args.x in
    let y = c.args.y in
    let width = c.args.width in
    let height = c.args.height in
    c.paint_edge-2.ensures column row narrow low
    ∙ ap (along x (y + height - 1) width (edge x width 43 45) column row)
    (c.paint_edge.ensures column row narrow low
    ∙ ap (along x y width (edge x width 43 45) column row)
    (c.paint_down-2.ensures column row narrow low ∙ ap (downward (x + width - 1) y height column row)
    (c.paint_down.ensures column row narrow low)))
    ∙ box_painted x y width height column row _ (omega arith) (omega arith)
