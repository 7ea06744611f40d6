use Rattle.std.proofs.Common.{◌≡◌, ◌≤◌, ◌++◌, ◌-◌, length}
use Rattle.cfb_chains.specs.Fat.{followed}
use Rattle.read_streams.proofs.chains.follow.Given as goal

abbrev pub invariant-loop-sectors : goal.invariant-loop-sectors
invariant-loop-sectors l =
    (l.sectors.items ++ followed l.table (l.count - length l.sectors.items) l.at ≡ followed l.table l.count l.first)
    × (length l.sectors.items ≤ l.count)

abbrev pub decreases-loop-sectors : goal.decreases-loop-sectors
decreases-loop-sectors l = l.count - length l.sectors.items
