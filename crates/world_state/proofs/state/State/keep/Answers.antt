use Rattle.std.proofs.Common.{◌∙◌, ◌++◌, ap, map}
use Rattle.world_host.specs.Servers.{ends_by}
use Rattle.world_host.specs.View.{bare}
use Rattle.world_model.specs.World.{making, started_instance}
use Rattle.world_state.proofs.Joins.{kept_taken_all}
use Rattle.world_state.proofs.Lifts.{kept_refused}
use Rattle.world_state.specs.View.{seen, seen_instance, seen_stocked}
use Rattle.world_state.proofs.state.State.keep.Goals as goal

pub returns-in-Ok-clause-taken : goal.returns-in-Ok-clause-taken
returns-in-Ok-clause-taken g c =
    let b = bare c.resolve_kept.new.self in
    let ends = c.in-Ok.servers.ends.items in
    let starts = c.in-Ok.servers.starts.items in
    let t = c.in-Ok.ensures.taken in (
      making t.0,
      t.1,
      kept_taken_all (seen (λ s. (goal.Embedded-dyn g (s.boxed.vtable, s.boxed.value)).content s.boxed.value)
          c.args.self.now) b _ c.args.f t.0 ends starts t.2 c.in-Ok.ensures.ends
          (c.finish.ensures
          ∙ ap
          (λ is. record b {
            instances =
                ends_by ends
                (map (seen_instance (λ s. (goal.Embedded-dyn g (s.boxed.vtable, s.boxed.value)).content
                s.boxed.value)) is) ++ map (started_instance b.rec.session b.rec.numbers) starts;
            stock =
                map (seen_stocked (λ s. (goal.Embedded-dyn g (s.boxed.vtable, s.boxed.value)).content s.boxed.value))
                c.args.self.now.stock.boxes.items;
          }) c.reserve.ensures.items),
    )

pub returns-in-Err-clause-refused : goal.returns-in-Err-clause-refused
returns-in-Err-clause-refused g c =
    kept_refused (seen (λ s. (goal.Embedded-dyn g (s.boxed.vtable, s.boxed.value)).content s.boxed.value)
    c.args.self.now) c.args.f c.in-Err.stop c.in-Err.ensures.refused
