use Rattle.std.proofs.Common.{◌+◌, ◌-◌, ◌*◌, ◌≤◌, List, ℕ, length}
use Rattle.cfb_bytes.specs.Bytes.{block}
use Rattle.write_zeros.specs.Taken.{IsLinked}
use Rattle.write_zeros.proofs.Ends.{IsEnding}
use Rattle.write_zeros.proofs.chains.ends_in_zeros.Given as goal

abbrev pub invariant-loop-at : goal.invariant-loop-at
invariant-loop-at l =
    (l.steps ≤ length l.table)
    × ((ns : List ℕ) → IsLinked l.table l.first l.size ns
    → IsEnding l.table (λ n. block l.width l.bytes (l.start + l.width * n)) l.size ns l.at l.left)

abbrev pub decreases-loop-at : goal.decreases-loop-at
decreases-loop-at l = length l.table - l.steps
