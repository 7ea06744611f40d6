use Rattle.std.proofs.Common.{◌≤◌, ◌-◌, IfSome}
use Rattle.text_io.specs.Input.{most}
use Rattle.tree_descriptions.proofs.Reading.{IsBehind}
use Rattle.tree_descriptions.proofs.description.behind_all.Given as goal

abbrev pub invariant-loop-unread : goal.invariant-loop-unread
invariant-loop-unread g l = record {
  lines : l.passed.lines ≤ l.passed.bytes;
  bytes : l.passed.bytes ≤ most;
  so_far : IfSome (g.R.Read.remaining l.fn.reader)
      (λ text. IsBehind l.fn.passed l.passed text (g.R.Read.remaining l.reader));
}

abbrev pub decreases-loop-unread : goal.decreases-loop-unread
decreases-loop-unread g l = most - l.passed.bytes
