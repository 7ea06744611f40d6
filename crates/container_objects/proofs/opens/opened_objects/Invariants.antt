use Rattle.std.proofs.Common.{◌≡◌, ◌≤◌, ◌+◌, ◌++◌, length}
use Rattle.std.specs.Vec.Iter.{into_iter_items}
use Rattle.container_model.specs.Opens.{opened_objects}
use Rattle.container_objects.proofs.opens.opened_objects.Given as goal

abbrev pub invariant-loop-object : goal.invariant-loop-object
invariant-loop-object l = record {
  can_next : (goal.iterator-loop-object).can_next l.object-iterator;
  is_finite : (goal.iterator-loop-object).is_finite l.object-iterator;
  number : l.number + length (into_iter_items l.object-iterator) ≤ 1000000;
  made : l.made.items ++ opened_objects l.number l.frame (into_iter_items l.object-iterator)
      ≡ opened_objects l.last l.frame (into_iter_items l.initial.object-iterator);
}
