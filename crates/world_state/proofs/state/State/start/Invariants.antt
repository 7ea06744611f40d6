use Rattle.std.proofs.Common.{◌++◌, ◌+◌, ◌≤◌, ◌≡◌, map, vec_len, vec_capacity}
use Rattle.std.specs.Vec.Iter.{into_iter_items, into_iter_len}
use Rattle.world_state.specs.View.{seen_instance}
use Rattle.world_model.specs.World.{started_instance}
use Rattle.world_state.proofs.state.State.start.Given as goal

abbrev pub invariant-loop-inc : goal.invariant-loop-inc
invariant-loop-inc g l = record {
  can_next : (goal.iterator-loop-inc g).can_next l.inc-iterator;
  is_finite : (goal.iterator-loop-inc g).is_finite l.inc-iterator;
  room : vec_len l.self.instances + into_iter_len l.inc-iterator ≤ vec_capacity l.self.instances;
  host : l.self.host ≡ l.initial.self.host;
  stock : l.self.stock ≡ l.initial.self.stock;
  instances : map (seen_instance (λ s. (goal.Embedded-dyn g (s.boxed.vtable, s.boxed.value)).content s.boxed.value))
      l.self.instances.items ++ map (started_instance l.session l.numbers) (into_iter_items l.inc-iterator)
      ≡ map (seen_instance (λ s. (goal.Embedded-dyn g (s.boxed.vtable, s.boxed.value)).content s.boxed.value))
      l.initial.self.instances.items
      ++ map (started_instance l.session l.numbers) (into_iter_items l.initial.inc-iterator);
}
