use Rattle.std.proofs.Common.{◌∙◌, ◌++◌, ◌≡◌, ap, map, subst}
use Rattle.std.specs.Prelude.{Some}
use Rattle.container_model.specs.Messages.{on_message}
use Rattle.world_host.specs.Logging.{heard}
use Rattle.world_host.specs.Servers.{ends_by, ends_in}
use Rattle.world_host.specs.View.{bare, started}
use Rattle.world_model.specs.World.{World, started_instance}
use Rattle.world_state.specs.View.{seen, seen_instance, seen_stocked}
use Rattle.world_state.proofs.Joins.{told_taken}
use Rattle.world_state.proofs.state.State.tell.Goals as goal

pub returns-in-Ok-clause-taken : goal.returns-in-Ok-clause-taken
returns-in-Ok-clause-taken g c =
    let b = bare c.tell.new.self in
    let ends = c.in-Ok.servers.ends.items in
    let starts = c.in-Ok.servers.starts.items in
    let Is : World → Type 0 = λ w. heard w (Some c.args.p) c.args.link c.args.message ≡ started b starts in
    told_taken (seen (λ s. (goal.Embedded-dyn g (s.boxed.vtable, s.boxed.value)).content s.boxed.value)
    c.args.self.now) b _ (Some c.args.p) c.args.link c.args.message ends starts c.in_ok-open.ensures.open
    (subst Is c.open.ensures.kept c.in-Ok.ensures.taken)
    (c.in-Ok.ensures.ends ∙ ap (λ (w : World). ends_in (on_message w.rec c.args.link c.args.message))
    c.open.ensures.kept)
    (c.finish.ensures
    ∙ ap
    (λ is. record b {
      instances =
          ends_by ends
          (map (seen_instance (λ s. (goal.Embedded-dyn g (s.boxed.vtable, s.boxed.value)).content s.boxed.value)) is)
          ++ map (started_instance b.rec.session b.rec.numbers) starts;
      stock =
          map (seen_stocked (λ s. (goal.Embedded-dyn g (s.boxed.vtable, s.boxed.value)).content s.boxed.value))
          c.args.self.now.stock.boxes.items;
    }) c.reserve.ensures.items)
