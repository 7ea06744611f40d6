use Rattle.std.proofs.Common.{◌≤◌, ◌-◌, IfSome}
use Rattle.text_io.specs.Input.{most}
use Rattle.tree_descriptions.proofs.Reading.{IsBehindCommands}
use Rattle.tree_descriptions.proofs.description.refusal.Given as goal

abbrev pub invariant-loop-place : goal.invariant-loop-place
invariant-loop-place g l = record {
  lines : l.passed.lines ≤ l.passed.bytes;
  bytes : l.passed.bytes ≤ most;
  so_far : IfSome (g.R.Read.remaining l.fn.reader)
      (λ text. IsBehindCommands (l.number, l.fault) l.fn.passed l.passed text (g.R.Read.remaining l.reader));
}

abbrev pub decreases-loop-place : goal.decreases-loop-place
decreases-loop-place g l = most - l.passed.bytes
