use Rattle.std.proofs.Common.{◌≤◌, IfSome}
use Rattle.text_io.specs.Input.{most}
use Rattle.tree_descriptions.specs.Building.{IsBuilt}
use Rattle.tree_descriptions.specs.Run.{IsRun}
use Rattle.tree_descriptions.proofs.Reading.{IsReading, to_come}
use Rattle.tree_descriptions.proofs.description.describe_lines.Given as goal

abbrev pub invariant-loop-run : goal.invariant-loop-run
invariant-loop-run g l = record {
  lines : l.passed.lines ≤ l.passed.bytes;
  bytes : l.passed.bytes ≤ most;
  so_far : IfSome (g.R.Read.remaining l.fn.reader)
      (λ text. IsReading text l.next l.line.items l.passed (g.R.Read.remaining l.reader) (IsRun l.run));
}

abbrev pub decreases-loop-run : goal.decreases-loop-run
decreases-loop-run g l = to_come l.next l.passed.bytes

abbrev pub invariant-loop-next : goal.invariant-loop-next
invariant-loop-next g l = record {
  lines : l.passed.lines ≤ l.passed.bytes;
  bytes : l.passed.bytes ≤ most;
  so_far : IfSome (g.R.Read.remaining l.fn.reader)
      (λ text. IsReading text l.next l.line.items l.passed (g.R.Read.remaining l.reader) (IsBuilt l.building));
}

abbrev pub decreases-loop-next : goal.decreases-loop-next
decreases-loop-next g l = to_come l.next l.passed.bytes
