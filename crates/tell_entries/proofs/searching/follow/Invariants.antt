use Rattle.std.proofs.Common.{◌+◌, ◌*◌, length}
use Rattle.tell_entries.specs.Searches.{IsSearch}
use Rattle.tell_entries.proofs.searching.follow.Given as goal

abbrev pub invariant-loop-fault : goal.invariant-loop-fault
invariant-loop-fault l = IsSearch l.directory l.fault l.search.ids.items l.search.parents.items l.search.seen.items
    l.search.ahead.items l.search.unseen

abbrev pub decreases-loop-fault : goal.decreases-loop-fault
decreases-loop-fault l = 3 * l.search.unseen + length l.search.ahead.items
