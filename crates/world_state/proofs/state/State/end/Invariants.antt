use Rattle.std.proofs.Common.{◌≡◌, drop, vec_len, vec_capacity}
use Rattle.world_host.specs.Servers.{ends_by}
use Rattle.world_state.specs.View.{seen}
use Rattle.world_state.proofs.state.State.end.Given as goal

abbrev pub invariant-loop-inc : goal.invariant-loop-inc
invariant-loop-inc g l = record {
  host : l.self.host ≡ l.initial.self.host;
  capacity : vec_capacity l.self.instances ≡ vec_capacity l.initial.self.instances;
  length : vec_len l.self.instances ≡ vec_len l.initial.self.instances;
  stock : (seen (λ s. (goal.Embedded-dyn g (s.boxed.vtable, s.boxed.value)).content s.boxed.value) l.self).stock
      ≡ (seen (λ s. (goal.Embedded-dyn g (s.boxed.vtable, s.boxed.value)).content s.boxed.value)
      l.initial.self).stock;
  ended : ends_by (drop l.inc-index l.ends)
      (seen (λ s. (goal.Embedded-dyn g (s.boxed.vtable, s.boxed.value)).content s.boxed.value) l.self).instances
      ≡ ends_by l.ends (seen (λ s. (goal.Embedded-dyn g (s.boxed.vtable, s.boxed.value)).content s.boxed.value)
      l.initial.self).instances;
}
