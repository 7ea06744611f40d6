use Rattle.std.proofs.Common.{◌≤◌, length}
use Rattle.tell_entries.proofs.Searches.{IsTail}
use Rattle.tell_entries.proofs.searching.way_to.Given as goal

abbrev pub invariant-loop-at : goal.invariant-loop-at
invariant-loop-at l = IsTail l.directory l.ids l.place l.at l.way.items

abbrev pub decreases-loop-at : goal.decreases-loop-at
decreases-loop-at l = l.at
