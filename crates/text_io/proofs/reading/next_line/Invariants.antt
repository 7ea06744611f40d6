use Rattle.std.proofs.Common.{◌≤◌, ◌-◌, IfSome}
use Rattle.text_io.specs.Input.{most}
use Rattle.text_io.proofs.LineFeeds.{Skips}
use Rattle.text_io.proofs.reading.next_line.Given as goal

abbrev pub invariant-loop-line : goal.invariant-loop-line
invariant-loop-line g l = record {
  lines : l.passed.lines ≤ l.passed.bytes;
  bytes : l.passed.bytes ≤ most;
  more : l.fn.passed.bytes ≤ l.passed.bytes;
  so_far : IfSome (g.R.Read.remaining l.fn.reader)
      (λ text. Skips l.fn.passed l.passed text (g.R.Read.remaining l.reader));
}

abbrev pub decreases-loop-line : goal.decreases-loop-line
decreases-loop-line g l = most - l.passed.bytes
