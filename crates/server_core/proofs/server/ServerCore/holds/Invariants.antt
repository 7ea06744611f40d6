use Rattle.std.proofs.Common.{◌≡◌, ◌-◌, drop, map}
use Rattle.server_model.specs.Server.{holds_of}
use Rattle.server_core.specs.View.{seen_activation}
use Rattle.server_core.proofs.server.ServerCore.holds.Given as goal

abbrev pub invariant-loop-done : goal.invariant-loop-done
invariant-loop-done g l =
    l.holds.items ≡ holds_of
    (drop (l.count - l.done)
    (map (seen_activation (λ s. (goal.Embedded-dyn g (s.boxed.vtable, s.boxed.value)).content s.boxed.value)
    l.self.seats.slab.slots) l.self.acts.entries))
