use Rattle.std.proofs.Common.{◌≡◌, ◌+◌, ◌-◌, ◌*◌, length}
use Rattle.write_zeros.proofs.Blocks.{AreZeroUpTo}
use Rattle.write_zeros.proofs.zeros.are_unmarked_zero.Given as goal

abbrev pub invariant-loop-at : goal.invariant-loop-at
invariant-loop-at l = (l.at ≡ l.start + l.width * l.n) × AreZeroUpTo l.n l.start l.width l.bytes l.marks

abbrev pub decreases-loop-at : goal.decreases-loop-at
decreases-loop-at l = length l.bytes - l.at
