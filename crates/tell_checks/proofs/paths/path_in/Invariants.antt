use Rattle.tell_checks.proofs.Named.{IsFront}
use Rattle.tell_checks.proofs.paths.path_in.Given as goal

abbrev pub invariant-loop-k : goal.invariant-loop-k
invariant-loop-k l = IsFront l.entries.directory l.way l.k l.path.items
