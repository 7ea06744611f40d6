use Rattle.std.proofs.Common.{◌≡◌, drop}
use Rattle.world_host.specs.Stops.{are_there}
use Rattle.world_host.proofs.host.Host.are_there.Given as goal

abbrev pub invariant-loop-f : goal.invariant-loop-f
invariant-loop-f l = are_there l.self.core.frames (drop l.f-index l.frames) ≡ are_there l.self.core.frames l.frames
