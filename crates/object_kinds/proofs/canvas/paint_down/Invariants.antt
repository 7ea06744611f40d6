use Rattle.std.proofs.Common.{◌-◌}
use Rattle.object_kinds.specs.Canvases.{Painted, downward}
use Rattle.object_kinds.proofs.canvas.paint_down.Given as goal

abbrev pub invariant-loop-row : goal.invariant-loop-row
invariant-loop-row l = Painted (downward l.x l.y (l.row - l.y)) l.initial.cells l.cells
