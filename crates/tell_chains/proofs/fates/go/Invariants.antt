use Rattle.tell_chains.specs.Fates.{AreFates, Runs}
use Rattle.tell_chains.proofs.fates.go.Given as goal

abbrev pub invariant-loop : goal.invariant-loop
invariant-loop l = Runs l.table l.stops l.first l.way.items l.at × AreFates l.table l.stops l.fates.items
