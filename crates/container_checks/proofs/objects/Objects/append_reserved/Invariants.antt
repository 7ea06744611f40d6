use Rattle.std.proofs.Common.{◌≡◌, ◌+◌, ◌≤◌, ◌++◌, vec_capacity, vec_len}
use Rattle.std.specs.Vec.Iter.{into_iter_items, into_iter_len}
use Rattle.container_checks.proofs.Numbers.{AreRising, numbers}
use Rattle.container_checks.proofs.objects.Objects.append_reserved.Given as goal

abbrev pub invariant-loop-object : goal.invariant-loop-object
invariant-loop-object l = record {
  can_next : (goal.iterator-loop-object).can_next l.object-iterator;
  is_finite : (goal.iterator-loop-object).is_finite l.object-iterator;
  places : vec_len l.self.list + into_iter_len l.object-iterator ≤ vec_capacity l.self.list;
  rising : AreRising (numbers l.self.list.items ++ numbers (into_iter_items l.object-iterator));
  added : l.self.list.items ++ into_iter_items l.object-iterator ≡ l.initial.self.list.items
      ++ into_iter_items l.initial.object-iterator;
}
