use Rattle.std.proofs.Common.{◌≡◌, ◌<◌, ◌≤◌, ◌+◌, ◌-◌, ℕ, get_or, length}
use Rattle.read_source.proofs.runs.run_length.Given as goal

abbrev pub invariant-loop-count : goal.invariant-loop-count
invariant-loop-count l =
    (0 < l.count) × (l.count ≤ 128) × (l.at + l.count ≤ length l.sectors)
    × ((k : ℕ) → k < l.count → get_or l.sectors (l.at + k) 0 ≡ get_or l.sectors l.at 0 + k)

abbrev pub decreases-loop-count : goal.decreases-loop-count
decreases-loop-count l = length l.sectors - (l.at + l.count)
