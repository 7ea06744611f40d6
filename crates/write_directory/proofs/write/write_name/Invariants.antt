use Rattle.std.proofs.Common.{◌≡◌, ◌-◌, ◌*◌, ◌++◌, take, replicate}
use Rattle.std.specs.List.{flat_map}
use Rattle.write_directory.proofs.Named.{unit}
use Rattle.write_directory.proofs.write.write_name.Given as goal

abbrev pub invariant-loop-k : goal.invariant-loop-k
invariant-loop-k l = l.bytes ≡ flat_map unit (take l.k l.name) ++ replicate (64 - 2 * l.k) 0
