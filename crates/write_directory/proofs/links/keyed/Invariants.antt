use Rattle.std.proofs.Common.{◌≡◌, take}
use Rattle.write_directory.specs.Building.{keyed_names}
use Rattle.write_directory.proofs.links.keyed.Given as goal

abbrev pub invariant-loop-k : goal.invariant-loop-k
invariant-loop-k l = l.siblings.items ≡ keyed_names (take l.k l.names)
