use Rattle.std.proofs.Common.{◌-◌, length}
use Rattle.tell_faults.specs.Places.{IsWalk}
use Rattle.tell_faults.proofs.Stops.{IsMarked}
use Rattle.tell_faults.proofs.walking.walk.Given as goal

abbrev pub invariant-loop-from : goal.invariant-loop-from
invariant-loop-from l =
    IsWalk l.table l.start l.sectors.items (record { from = l.from; to = l.at })
    × IsMarked (length l.table) l.taken l.marks.items l.sectors.items

abbrev pub decreases-loop-from : goal.decreases-loop-from
decreases-loop-from l = length l.table - length l.sectors.items
