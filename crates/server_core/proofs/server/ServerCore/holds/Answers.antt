use Rattle.std.proofs.Common.{ℕ, ◌-◌, ap, refl, sym, ◌∙◌, option_map}
use Rattle.std.specs.Map.Iter.{deref_pair}
use Rattle.server_core.specs.View.{seen_activation}
use Rattle.server_core.specs.declared.server.Activation as code
use Rattle.server_core.proofs.Gathering.{gathered_more}
use Rattle.server_core.proofs.Standing.{get_at}
use Rattle.server_core.proofs.server.ServerCore.holds.Goals as goal

pub loop-done-preserved : goal.loop-done-preserved
loop-done-preserved g c =
    let x : ℕ × code.Activation = (c.unwrap.result.0.now, c.unwrap.result.1.now) in
    gathered_more
    (seen_activation (λ s. (goal.Embedded-dyn g (s.boxed.vtable, s.boxed.value)).content s.boxed.value)
    c.args.self.now.seats.slab.slots) c.args.self.now.acts.entries
    c.len-count.result c.loop-done.done x c.unwrap.result.0.now c.grant.result c.loop-done.holds.items
    c.add_hold.new.holds.items
    c.len-count.ensures.len c.loop-done-test.true
    (get_at c.args.self.now.acts.entries (c.len-count.result - 1 - c.loop-done.done) x
    (sym c.get_index.ensures.entry ∙ ap (option_map deref_pair) c.unwrap.ensures))
    refl c.grant.ensures c.loop-done.invariant c.in_ok-add_hold.ensures
