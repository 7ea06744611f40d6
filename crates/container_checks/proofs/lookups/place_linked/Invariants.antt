use Rattle.container_model.specs.Numbered.{IsPast}
use Rattle.container_model.specs.Record.{is_linked}
use Rattle.container_checks.proofs.lookups.place_linked.Given as goal

abbrev pub invariant-loop-i : goal.invariant-loop-i
invariant-loop-i l = IsPast (is_linked l.inc l.act) l.objects l.i
