use Rattle.world_host.proofs.Filed.{IsPast}
use Rattle.world_host.proofs.commits.file_place.Given as goal

abbrev pub invariant-loop-i : goal.invariant-loop-i
invariant-loop-i l = IsPast l.name l.files l.i
