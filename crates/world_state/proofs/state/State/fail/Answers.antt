use Rattle.std.proofs.Common.{◌∙◌, ◌++◌, ap, map}
use Rattle.container_model.specs.Saves.{commit_failed}
use Rattle.world_host.specs.Servers.{ends_by}
use Rattle.world_host.specs.View.{bare}
use Rattle.world_model.specs.World.{no_choice, started_instance}
use Rattle.world_state.proofs.Joins.{only_taken_all}
use Rattle.world_state.proofs.Lifts.{only_refused}
use Rattle.world_state.specs.View.{seen, seen_instance, seen_stocked}
use Rattle.world_state.proofs.state.State.fail.Goals as goal

pub returns-in-Ok-clause-taken : goal.returns-in-Ok-clause-taken
returns-in-Ok-clause-taken g c =
    let b = bare c.fail.new.self in
    let ends = c.in-Ok.servers.ends.items in
    let starts = c.in-Ok.servers.starts.items in (
      no_choice,
      tt,
      only_taken_all (seen (λ s. (goal.Embedded-dyn g (s.boxed.vtable, s.boxed.value)).content s.boxed.value)
          c.args.self.now) b _
          (commit_failed (seen (λ s. (goal.Embedded-dyn g (s.boxed.vtable, s.boxed.value)).content s.boxed.value)
          c.args.self.now).rec c.args.f) ends starts c.in-Ok.ensures.taken c.in-Ok.ensures.ends
          (c.finish.ensures
          ∙ ap
          (λ is. record b {
            instances =
                ends_by ends
                (map (seen_instance (λ s. (goal.Embedded-dyn g (s.boxed.vtable, s.boxed.value)).content
                s.boxed.value)) is) ++ map (started_instance b.rec.session b.rec.numbers) starts;
            stock =
                map (seen_stocked (λ s. (goal.Embedded-dyn g (s.boxed.vtable, s.boxed.value)).content s.boxed.value))
                c.args.self.now.stock.boxes.items;
          }) c.reserve.ensures.items),
    )

pub returns-in-Err-clause-refused : goal.returns-in-Err-clause-refused
returns-in-Err-clause-refused g c = λ choice. only_refused
    (seen (λ s. (goal.Embedded-dyn g (s.boxed.vtable, s.boxed.value)).content s.boxed.value) c.args.self.now)
    (commit_failed (seen (λ s. (goal.Embedded-dyn g (s.boxed.vtable, s.boxed.value)).content s.boxed.value)
    c.args.self.now).rec c.args.f) c.in-Err.stop c.in-Err.ensures.refused
