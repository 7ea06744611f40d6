use Rattle.std.proofs.Common.{◌≡◌, ◌++◌, drop, take}
use Rattle.write_directory.proofs.write.write_class.Given as goal

abbrev pub invariant-loop-k : goal.invariant-loop-k
invariant-loop-k l = l.bytes ≡ take l.k l.class ++ drop l.k l.initial.bytes
