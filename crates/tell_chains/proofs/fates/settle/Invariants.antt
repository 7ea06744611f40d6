use Rattle.std.proofs.Common.{length}
use Rattle.tell_chains.specs.Fates.{IsSettling}
use Rattle.tell_chains.proofs.fates.settle.Given as goal

abbrev pub invariant-loop-fate : goal.invariant-loop-fate
invariant-loop-fate l = IsSettling l.table l.stops l.fates.items l.first l.way.items l.fate

abbrev pub decreases-loop-fate : goal.decreases-loop-fate
decreases-loop-fate l = length l.way.items
