use Rattle.std.proofs.Common.{◌≡◌, ◌++◌, drop, take, map, length}
use Rattle.container_model.specs.Messages.{reaped_object}
use Rattle.container_objects.proofs.reaps.reap_slice.Given as goal

abbrev pub invariant-loop-object : goal.invariant-loop-object
invariant-loop-object l = record {
  same_length : length l.objects ≡ length l.fn.objects;
  same : take l.object-index l.objects ++ map (λ o. reaped_object l.inc o o.link) (drop l.object-index l.objects)
      ≡ map (λ o. reaped_object l.inc o o.link) l.fn.objects;
}
