use Rattle.std.proofs.Common.{◌∙◌, ◌++◌, ◌≡◌, ap, map, subst, sym}
use Rattle.container_model.specs.Messages.{on_message}
use Rattle.world_host.specs.Logging.{forged}
use Rattle.world_host.specs.Servers.{ends_by, ends_in}
use Rattle.world_host.specs.View.{bare, started}
use Rattle.world_model.specs.World.{World, link_to, started_instance}
use Rattle.world_state.specs.Plans.{forging}
use Rattle.world_state.specs.View.{seen, seen_instance, seen_stocked}
use Rattle.world_state.proofs.Joins.{forge_taken}
use Rattle.world_state.proofs.state.State.forge_on.Goals as goal

pub returns-in-Ok-forge-clause-taken : goal.returns-in-Ok-forge-clause-taken
returns-in-Ok-forge-clause-taken g c =
    let w = seen (λ s. (goal.Embedded-dyn g (s.boxed.vtable, s.boxed.value)).content s.boxed.value) c.args.self.now in
    let b = bare c.forge.new.self in
    let ends = c.in-Ok-forge.servers.ends.items in
    let starts = c.in-Ok-forge.servers.starts.items in
    let Is : World → Type 0 = λ w. forged w c.args.inc c.in-Ok.copied ≡ started b starts in
    ap (forging w c.args.inc) (sym c.in-Ok.ensures)
    ∙ forge_taken w b _ c.args.inc c.in-Ok.copied ends starts c.in_ok-open.ensures.open
    (subst Is c.open.ensures.kept c.in-Ok-forge.ensures.taken)
    (c.in-Ok-forge.ensures.ends
    ∙ ap (λ (w : World). ends_in (on_message w.rec (link_to w c.args.inc) c.in-Ok.copied)) c.open.ensures.kept)
    (c.finish.ensures
    ∙ ap
    (λ is. record b {
      instances =
          ends_by ends
          (map (seen_instance (λ s. (goal.Embedded-dyn g (s.boxed.vtable, s.boxed.value)).content s.boxed.value)) is)
          ++ map (started_instance b.rec.session b.rec.numbers) starts;
      stock =
          map (seen_stocked (λ s. (goal.Embedded-dyn g (s.boxed.vtable, s.boxed.value)).content s.boxed.value))
          c.args.self.now.stock.boxes.items;
    }) c.reserve.ensures.items)
