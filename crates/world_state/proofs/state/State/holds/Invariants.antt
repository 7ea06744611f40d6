use Rattle.std.proofs.Common.{◌≡◌, ◌++◌, drop, map}
use Rattle.world_model.specs.Report.{held_by}
use Rattle.world_state.specs.View.{seen_instance}
use Rattle.world_state.proofs.state.State.holds.Given as goal

abbrev pub invariant-loop-instance : goal.invariant-loop-instance
invariant-loop-instance g l =
    l.holds.items ++ map held_by
    (map (seen_instance (λ s. (goal.Embedded-dyn g (s.boxed.vtable, s.boxed.value)).content s.boxed.value))
    (drop l.instance-index l.instance-items))
    ≡ map held_by
    (map (seen_instance (λ s. (goal.Embedded-dyn g (s.boxed.vtable, s.boxed.value)).content s.boxed.value))
    l.self.instances.items)
