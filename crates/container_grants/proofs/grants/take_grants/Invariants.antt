use Rattle.std.proofs.Common.{◌≡◌, ◌+◌, ◌≤◌, ◌++◌, vec_len, vec_capacity}
use Rattle.std.specs.Vec.Iter.{into_iter_items, into_iter_len}
use Rattle.container_grants.specs.Granted.{actions_of, installed_each}
use Rattle.container_grants.proofs.grants.take_grants.Given as goal

abbrev pub invariant-loop-grant : goal.invariant-loop-grant
invariant-loop-grant l = record {
  can_next : (goal.iterator-loop-grant).can_next l.grant-iterator;
  is_finite : (goal.iterator-loop-grant).is_finite l.grant-iterator;
  few : vec_len l.actions + into_iter_len l.grant-iterator ≤ vec_len l.initial.actions
      + into_iter_len l.initial.grant-iterator;
  room : vec_len l.actions + into_iter_len l.grant-iterator ≤ vec_capacity l.actions;
  more : vec_capacity l.initial.actions ≤ vec_capacity l.actions;
  sent : l.actions.items ++ actions_of (into_iter_items l.grant-iterator) ≡ l.initial.actions.items
      ++ actions_of (into_iter_items l.initial.grant-iterator);
  objects : installed_each (into_iter_items l.grant-iterator) l.objects.list.items
      ≡ installed_each (into_iter_items l.initial.grant-iterator) l.initial.objects.list.items;
}
