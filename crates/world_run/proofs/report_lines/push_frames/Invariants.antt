use Rattle.std.proofs.Common.{◌≡◌, ◌+◌, ◌++◌, drop}
use Rattle.world_model.specs.Report.{frame_lines}
use Rattle.world_run.proofs.report_lines.push_frames.Given as goal

abbrev pub invariant-loop-index : goal.invariant-loop-index
invariant-loop-index l = l.text.items ++ frame_lines (l.index + 1) (drop l.index l.frames) ≡ l.initial.text.items
    ++ frame_lines 1 l.frames
