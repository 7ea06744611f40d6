use Rattle.std.proofs.Common.{◌≡◌, ◌<◌, ◌≤◌, ◌++◌, ◌-◌, length}
use Rattle.std.specs.List.{All}
use Rattle.cfb_chains.specs.Fat.{followed}
use Rattle.read_chains.proofs.table.follow.Given as goal

abbrev pub invariant-loop-sectors : goal.invariant-loop-sectors
invariant-loop-sectors l =
    (l.sectors.items ++ followed l.table (length l.table - length l.sectors.items) l.at
    ≡ followed l.table (length l.table) l.start)
    × All (λ n. n < length l.table) l.sectors.items × (length l.sectors.items ≤ length l.table)

abbrev pub decreases-loop-sectors : goal.decreases-loop-sectors
decreases-loop-sectors l = length l.table - length l.sectors.items
