use Rattle.std.proofs.Common.{◌≡◌, ◌≤◌, drop, length}
use Rattle.container_core.specs.Screen.{painted_all}
use Rattle.container_core.proofs.cells.paint_all.Given as goal

abbrev pub invariant-loop-object : goal.invariant-loop-object
invariant-loop-object l = record {
  same_length : length l.row ≡ length l.fn.row;
  same : painted_all l.f l.y (drop l.object-index l.objects) l.row ≡ painted_all l.f l.y l.objects l.fn.row;
}
