use Rattle.std.proofs.Common.{◌≡◌, ◌≤◌, ◌+◌, true, arith, slice_set, slice_get}
use Rattle.container_model.specs.Record.{count_alive, is_unreaped}
use Rattle.container_checks.proofs.ServersCounted.{alive_at_least, alive_reaped, unreaped_at}
use Rattle.container_checks.proofs.servers.Servers.reap.Goals as goal

pub overflow_sub-self : goal.overflow_sub-self
overflow_sub-self c =
    let e : is_unreaped (slice_get c.self.inside.reaped.items c.in-Some.place) ≡ true =
    unreaped_at _ _ _ _ _ c.in-Some.ensures c.deref.ensures.value c.self.view_is c.requires in
    let h : 1 ≤ count_alive c.self.inside.reaped.items = alive_at_least _ c.in-Some.place e in
    omega arith

pub invariant_of-self : goal.invariant_of-self
invariant_of-self c =
    let e : is_unreaped (slice_get c.self.inside.reaped.items c.in-Some.place) ≡ true =
    unreaped_at _ _ _ _ _ c.in-Some.ensures c.deref.ensures.value c.self.view_is c.requires in
    let h : count_alive (slice_set c.self.inside.reaped.items c.in-Some.place true) + 1
    ≡ count_alive c.self.inside.reaped.items = alive_reaped _ c.in-Some.place e in
    omega arith
