use Rattle.std.proofs.Common.{◌≡◌, ◌+◌, ◌≤◌, ◌^◌, length}
use Rattle.text_io.specs.Lines.{asking}
use Rattle.text_io.proofs.lines.Lines.next_line.Given as goal

abbrev pub invariant-loop-line : goal.invariant-loop-line
invariant-loop-line l = record {
  same : l.fn.self ≡ asking (l.self-inside.number + 1) l.self-inside.left;
  few : l.self-inside.number + length l.self-inside.left ≤ 2 ^ 32;
}

abbrev pub decreases-loop-line : goal.decreases-loop-line
decreases-loop-line l = length l.self-inside.left
