use Rattle.std.proofs.Common.{◌≡◌, ◌++◌, drop, take, map}
use Rattle.container_model.specs.Saves.{forgotten_object}
use Rattle.container_objects.proofs.commits.forget_objects.Given as goal

abbrev pub invariant-loop-object : goal.invariant-loop-object
invariant-loop-object l = l.objects ≡ map (forgotten_object l.f) (take l.object-index l.fn.objects)
    ++ drop l.object-index l.fn.objects
