use Rattle.std.proofs.Common.{◌≡◌, ◌++◌, take}
use Rattle.std.specs.List.{flat_map}
use Rattle.ole_model.specs.Layouts.{area_bytes}
use Rattle.ole_streams.proofs.layout.push_areas.Given as goal

abbrev pub invariant-loop-area : goal.invariant-loop-area
invariant-loop-area l = l.out.items ≡ l.initial.out.items ++ flat_map area_bytes (take l.area-index l.areas)
