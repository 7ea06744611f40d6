use Rattle.std.proofs.Common.{◌≡◌, map, take}
use Rattle.ole_streams.proofs.layout.areas_of.Given as goal

abbrev pub invariant-loop-object : goal.invariant-loop-object
invariant-loop-object l = l.areas.items ≡ map (λ o. o.area) (take l.object-index l.objects)
