use Rattle.std.proofs.Common.{◌∙◌, ◌++◌, ◌≡◌, ap, map, subst}
use Rattle.container_model.specs.Opens.{opened}
use Rattle.world_host.specs.Servers.{ends_by}
use Rattle.world_host.specs.View.{bare, started}
use Rattle.world_model.specs.World.{World, MayChoose, started_instance, giving, took}
use Rattle.world_model.specs.declared.event.Event.TheVariants as event
use Rattle.world_state.specs.View.{seen, seen_instance, seen_stocked}
use Rattle.world_state.proofs.Joins.{open_taken}
use Rattle.world_state.proofs.state.State.open_file.Goals as goal

pub returns-in-Ok-clause-taken : goal.returns-in-Ok-clause-taken
returns-in-Ok-clause-taken g c =
    let b = bare c.open_file.new.self in
    let ends = c.in-Ok.servers.ends.items in
    let starts = c.in-Ok.servers.starts.items in
    let t = c.in-Ok.ensures.taken in
    let Is : World → Type 0 = λ w. took w (opened w.rec c.args.name.now c.args.width c.args.height t.0)
    ≡ started b starts in
    let Gives : World → Type 0 = λ w. MayChoose w (giving t.0)
    (event.Open c.args.name.now c.args.width c.args.height) in (
      giving t.0,
      subst Gives c.open.ensures.kept t.1,
      open_taken (seen (λ s. (goal.Embedded-dyn g (s.boxed.vtable, s.boxed.value)).content s.boxed.value)
          c.args.self.now) b _ c.args.name.now c.args.width c.args.height t.0 ends starts c.in_ok-open.ensures.open
          (subst Is c.open.ensures.kept t.2)
          c.in-Ok.ensures.ends
          (c.finish.ensures
          ∙ ap
          (λ is. record b {
            instances =
                ends_by ends
                (map (seen_instance (λ s. (goal.Embedded-dyn g (s.boxed.vtable, s.boxed.value)).content
                s.boxed.value)) is) ++ map (started_instance b.rec.session b.rec.numbers) starts;
            stock =
                map (seen_stocked (λ s. (goal.Embedded-dyn g (s.boxed.vtable, s.boxed.value)).content s.boxed.value))
                c.args.self.now.stock.boxes.items;
          }) c.reserve.ensures.items),
    )
