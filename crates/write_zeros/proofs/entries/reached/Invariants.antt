use Rattle.std.proofs.Common.{List, ℕ}
use Rattle.std.specs.List.{All, Contains}
use Rattle.write_zeros.specs.Taken.{IsTaken}
use Rattle.write_zeros.proofs.entries.reached.Given as goal

abbrev pub invariant-loop-k : goal.invariant-loop-k
invariant-loop-k l = (next next_mini ids sectors minis : List ℕ)
    → IsTaken l.directory next next_mini ids sectors minis → Contains ids 0 → All (Contains ids) l.met.items
