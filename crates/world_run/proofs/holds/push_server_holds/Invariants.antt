use Rattle.std.proofs.Common.{◌≡◌, ◌++◌, drop}
use Rattle.std.specs.List.{flat_map}
use Rattle.world_model.specs.Report.{hold_line}
use Rattle.world_run.proofs.holds.push_server_holds.Given as goal

abbrev pub invariant-loop-hold : goal.invariant-loop-hold
invariant-loop-hold l = l.text.items ++ flat_map (hold_line l.fn.inc) (drop l.hold-index l.holds)
    ≡ l.initial.text.items ++ flat_map (hold_line l.fn.inc) l.holds
