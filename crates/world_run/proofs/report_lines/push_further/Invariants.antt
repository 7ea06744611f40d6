use Rattle.std.proofs.Common.{◌≡◌, ◌++◌, drop}
use Rattle.std.specs.List.{flat_map}
use Rattle.world_model.specs.Report.{further_text}
use Rattle.world_run.proofs.report_lines.push_further.Given as goal

abbrev pub invariant-loop-stream : goal.invariant-loop-stream
invariant-loop-stream l = l.text.items ++ flat_map further_text (drop l.stream-index l.streams)
    ≡ l.initial.text.items ++ flat_map further_text l.streams
