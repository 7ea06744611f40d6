use Rattle.std.proofs.Common.{◌≡◌, drop}
use Rattle.world_model.specs.Story.{is_among}
use Rattle.world_host.proofs.stops.is_among.Given as goal

abbrev pub invariant-loop-x : goal.invariant-loop-x
invariant-loop-x l = is_among (drop l.x-index l.frames) l.f ≡ is_among l.frames l.f
