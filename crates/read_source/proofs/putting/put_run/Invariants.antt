use Rattle.read_source.proofs.Filling.{ArePut}
use Rattle.read_source.proofs.putting.put_run.Given as goal

abbrev pub invariant-loop-k : goal.invariant-loop-k
invariant-loop-k l = ArePut l.initial.file l.file l.bytes l.first l.k
