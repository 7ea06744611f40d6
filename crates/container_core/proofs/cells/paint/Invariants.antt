use Rattle.std.proofs.Common.{◌≡◌, ◌≤◌, ◌+◌, ◌++◌, drop, take, length}
use Rattle.container_core.specs.Screen.{painted}
use Rattle.container_core.specs.View.{strip_view}
use Rattle.container_core.proofs.cells.paint.Given as goal

abbrev pub invariant-loop-i : goal.invariant-loop-i
invariant-loop-i l = record {
  same_length : length l.row ≡ length l.fn.row;
  same : take l.i l.row ++ painted l.area (strip_view l.strip) l.i (drop l.i l.row)
      ≡ painted l.area (strip_view l.strip) 0 l.fn.row;
}
