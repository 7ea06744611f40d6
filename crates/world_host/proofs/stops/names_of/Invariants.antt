use Rattle.std.proofs.Common.{◌≡◌, ◌++◌, drop}
use Rattle.std.specs.List.{flat_map}
use Rattle.world_host.specs.Stops.{named}
use Rattle.world_host.proofs.stops.names_of.Given as goal

abbrev pub invariant-loop-file : goal.invariant-loop-file
invariant-loop-file l = l.names.items ++ flat_map named (drop l.file-index l.made) ≡ flat_map named l.made
