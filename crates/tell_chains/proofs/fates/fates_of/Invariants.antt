use Rattle.tell_chains.specs.Fates.{AreFates}
use Rattle.tell_chains.proofs.fates.fates_of.Given as goal

abbrev pub invariant-loop-stream : goal.invariant-loop-stream
invariant-loop-stream l = AreFates l.table l.stops l.fates.items
