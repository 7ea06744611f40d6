use Rattle.std.proofs.Common.{◌≡◌, ◌++◌, drop, map}
use Rattle.container_checks.proofs.lookups.object_numbers.Given as goal

abbrev pub invariant-loop-object : goal.invariant-loop-object
invariant-loop-object l = l.numbers.items ++ map (λ o. o.number) (drop l.object-index l.objects)
    ≡ map (λ o. o.number) l.objects
