use Rattle.std.proofs.Common.{◌≡◌, ◌≤◌, ◌+◌, ◌++◌, drop, take, length}
use Rattle.container_core.specs.Screen.{bordered}
use Rattle.container_core.proofs.cells.border_row.Given as goal

abbrev pub invariant-loop-i : goal.invariant-loop-i
invariant-loop-i l = record {
  same_length : length l.row ≡ length l.fn.row;
  same : take l.i l.row ++ bordered l.width l.height l.border l.y l.i (drop l.i l.row)
      ≡ bordered l.width l.height l.border l.y 0 l.fn.row;
}
