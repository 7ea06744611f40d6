use Rattle.std.proofs.Common.{◌≡◌, ◌+◌, ◌<◌, ◌++◌, vec_len, vec_capacity}
use Rattle.std.specs.Vec.Iter.{into_iter_items, into_iter_len}
use Rattle.container_grants.proofs.handing.go_over.Given as goal

abbrev pub invariant-loop-operation : goal.invariant-loop-operation
invariant-loop-operation l = record {
  can_next : (goal.iterator-loop-operation).can_next l.operation-iterator;
  is_finite : (goal.iterator-loop-operation).is_finite l.operation-iterator;
  place : vec_len l.room + into_iter_len l.operation-iterator < vec_capacity l.room;
  same : l.room.items ++ into_iter_items l.operation-iterator ≡ into_iter_items l.initial.operation-iterator;
}
