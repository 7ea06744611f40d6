use Rattle.std.proofs.Common.{◌∙◌, ◌++◌, ◌≡◌, ap, map, subst}
use Rattle.container_model.specs.Commands.{on_command}
use Rattle.world_host.specs.Servers.{ends_by, ends_in}
use Rattle.world_host.specs.View.{bare, started}
use Rattle.world_model.specs.World.{World, commanded, started_instance}
use Rattle.world_state.specs.View.{seen, seen_instance, seen_stocked}
use Rattle.world_state.proofs.Joins.{command_taken}
use Rattle.world_state.proofs.state.State.command.Goals as goal

pub returns-in-Ok-clause-taken : goal.returns-in-Ok-clause-taken
returns-in-Ok-clause-taken g c =
    let b = bare c.command.new.self in
    let ends = c.in-Ok.servers.ends.items in
    let starts = c.in-Ok.servers.starts.items in
    let Is : World → Type 0 = λ w. commanded w c.args.command.now (on_command w.rec c.args.command.now)
    ≡ started b starts in
    command_taken (seen (λ s. (goal.Embedded-dyn g (s.boxed.vtable, s.boxed.value)).content s.boxed.value)
    c.args.self.now) b _ c.args.command.now ends starts c.in_ok-open.ensures.open
    (subst Is c.open.ensures.kept c.in-Ok.ensures.taken)
    (c.in-Ok.ensures.ends ∙ ap (λ (w : World). ends_in (on_command w.rec c.args.command.now)) c.open.ensures.kept)
    (c.finish.ensures
    ∙ ap
    (λ is. record b {
      instances =
          ends_by ends
          (map (seen_instance (λ s. (goal.Embedded-dyn g (s.boxed.vtable, s.boxed.value)).content s.boxed.value)) is)
          ++ map (started_instance b.rec.session b.rec.numbers) starts;
      stock =
          map (seen_stocked (λ s. (goal.Embedded-dyn g (s.boxed.vtable, s.boxed.value)).content s.boxed.value))
          c.args.self.now.stock.boxes.items;
    }) c.reserve.ensures.items)
