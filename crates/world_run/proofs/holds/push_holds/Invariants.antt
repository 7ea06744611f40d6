use Rattle.std.proofs.Common.{◌≡◌, ◌+◌, ◌++◌, drop}
use Rattle.world_model.specs.Report.{hold_lines}
use Rattle.world_run.proofs.holds.push_holds.Given as goal

abbrev pub invariant-loop-index : goal.invariant-loop-index
invariant-loop-index l = l.text.items ++ hold_lines (l.index + 1) (drop l.index l.holds) ≡ l.initial.text.items
    ++ hold_lines 1 l.holds
