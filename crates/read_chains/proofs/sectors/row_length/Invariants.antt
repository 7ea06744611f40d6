use Rattle.std.proofs.Common.{◌<◌, ◌≤◌, ◌+◌, ◌-◌, length}
use Rattle.read_chains.proofs.sectors.row_length.Given as goal

abbrev pub invariant-loop-count : goal.invariant-loop-count
invariant-loop-count l = (0 < l.count) × (l.at + l.count ≤ length l.sectors)

abbrev pub decreases-loop-count : goal.decreases-loop-count
decreases-loop-count l = length l.sectors - (l.at + l.count)
