use Rattle.std.proofs.Common.{◌≡◌, map, take}
use Rattle.read_streams.specs.Chains.{begins_at}
use Rattle.read_streams.proofs.chains.mini_places.Given as goal

abbrev pub invariant-loop-mini : goal.invariant-loop-mini
invariant-loop-mini l = l.places.items ≡ map (begins_at l.mini_stream) (take l.mini-index l.minis)
