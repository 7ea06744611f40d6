use Rattle.std.proofs.Common.{◌≡◌, ◌≤◌, ◌+◌, length, take, drop, Ok}
use Rattle.text_words.specs.Words.{lines}
use Rattle.text_worlds.specs.Moments.{moment_read}
use Rattle.text_io.specs.Lines.{lines_read}
use Rattle.text_worlds.proofs.moments.parse_moments.Given as goal

abbrev pub invariant-loop-line : goal.invariant-loop-line
invariant-loop-line l = record {
  few : l.number + length l.left ≤ length l.text + 1;
  left : drop l.number (lines l.text) ≡ l.left;
  read : lines_read moment_read 1 (take l.number (lines l.text)) ≡ Ok l.moments.items;
}

abbrev pub decreases-loop-line : goal.decreases-loop-line
decreases-loop-line l = length l.left
