use Rattle.std.proofs.Common.{◌≡◌}
use Rattle.write_parts.proofs.Numbers.{before_zeros}
use Rattle.write_parts.proofs.pieces.push_numbers.Given as goal

abbrev pub invariant-loop-k : goal.invariant-loop-k
invariant-loop-k l = l.bytes ≡ before_zeros l.numbers l.k
