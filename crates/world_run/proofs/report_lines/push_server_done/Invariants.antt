use Rattle.std.proofs.Common.{◌≡◌, ◌++◌, drop}
use Rattle.std.specs.List.{flat_map}
use Rattle.world_model.specs.Report.{server_line}
use Rattle.world_run.proofs.report_lines.push_server_done.Given as goal

abbrev pub invariant-loop-entry : goal.invariant-loop-entry
invariant-loop-entry l = l.text.items ++ flat_map server_line (drop l.entry-index l.done) ≡ l.initial.text.items
    ++ flat_map server_line l.done
