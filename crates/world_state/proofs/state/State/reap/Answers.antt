use Rattle.std.proofs.Common.{◌∙◌, ◌≡◌, ap, map, refl, subst}
use Rattle.std.specs.Prelude.{IfSome}
use Rattle.message_values.specs.Found.{nth, set_nth}
use Rattle.container_model.specs.Messages.{on_reap}
use Rattle.world_host.specs.Servers.{ends_in}
use Rattle.world_host.specs.View.{bare, started}
use Rattle.world_model.specs.declared.life.Life.TheVariants.{Reaped}
use Rattle.world_model.specs.World.{World, took}
use Rattle.world_state.specs.View.{seen, seen_instance, seen_stocked}
use Rattle.world_state.proofs.Joins.{reap_taken}
use Rattle.world_state.proofs.state.State.reap.Goals as goal

pub returns-in-Ok-clause-taken : goal.returns-in-Ok-clause-taken
returns-in-Ok-clause-taken g c =
    let b = bare c.reap.new.self in
    let ends = c.in-Ok.servers.ends.items in
    let starts = c.in-Ok.servers.starts.items in
    let m = seen (λ s. (goal.Embedded-dyn g (s.boxed.vtable, s.boxed.value)).content s.boxed.value)
    c.set_life.new.self in
    let stock =
    map (seen_stocked (λ s. (goal.Embedded-dyn g (s.boxed.vtable, s.boxed.value)).content s.boxed.value))
    c.args.self.now.stock.boxes.items in
    let Is : World → Type 0 = λ w. took w (on_reap w.rec c.args.inc) ≡ started b starts in
    reap_taken (seen (λ s. (goal.Embedded-dyn g (s.boxed.vtable, s.boxed.value)).content s.boxed.value)
    c.args.self.now) b m _ c.args.inc c.in-Some.life
    (nth (map (seen_instance (λ s. (goal.Embedded-dyn g (s.boxed.vtable, s.boxed.value)).content s.boxed.value))
    c.args.self.now.instances.items) c.args.inc) ends starts refl
    c.in-Some.ensures.2 c.in-Some.ensures.1 c.in-Ended.is c.in_ok-open.ensures.open
    (subst Is c.open.ensures.kept c.in-Ok.ensures.taken)
    (c.in-Ok.ensures.ends ∙ ap (λ (w : World). ends_in (on_reap w.rec c.args.inc)) c.open.ensures.kept)
    (subst
    (λ is. IfSome
    (nth (map (seen_instance (λ s. (goal.Embedded-dyn g (s.boxed.vtable, s.boxed.value)).content s.boxed.value))
    is) c.args.inc)
    (λ x. m ≡ record b {
      instances =
          set_nth
          (map (seen_instance (λ s. (goal.Embedded-dyn g (s.boxed.vtable, s.boxed.value)).content s.boxed.value)) is)
          c.args.inc (record x { life = Reaped });
      stock = stock;
    })) c.reserve.ensures.items c.set_life.ensures.set)
    c.finish.ensures
