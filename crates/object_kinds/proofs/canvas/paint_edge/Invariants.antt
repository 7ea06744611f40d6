use Rattle.std.proofs.Common.{◌-◌}
use Rattle.object_kinds.specs.Canvases.{Painted, along, edge}
use Rattle.object_kinds.proofs.canvas.paint_edge.Given as goal

abbrev pub invariant-loop-column : goal.invariant-loop-column
invariant-loop-column l = Painted (along l.x l.y (l.column - l.x) (edge l.x l.count l.corner 45)) l.initial.cells
    l.cells
