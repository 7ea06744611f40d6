use Rattle.std.proofs.Common.{◌∷◌, [], ◌++◌, ap, sym, ◌∙◌, map, None, refl}
use Rattle.std.specs.Prelude.{slice_get}
use Rattle.std.proofs.Math.Seq.{map-set_same}
use Rattle.server_model.specs.Server.{Server, ask_deactivate}
use Rattle.world_state.specs.View.{seen, seen_instance}
use Rattle.world_host.specs.View.{bare}
use Rattle.world_model.specs.World.{World}
use Rattle.world_model.specs.declared.logs.EventAnswer.TheVariants as told
use Rattle.world_host.specs.Rooms.{replied}
use Rattle.world_state.proofs.Servers.{seen_at, set_at}
use Rattle.world_state.proofs.Serving.{if_some, stands}
use Rattle.world_state.proofs.OwnAccord.{speaks_taken, speaks_dropped}
use Rattle.world_state.proofs.state.State.ask_at.Goals as goal

pub returns-in-Ok-ask_deactivate-clause-taken : goal.returns-in-Ok-ask_deactivate-clause-taken
returns-in-Ok-ask_deactivate-clause-taken g c =
    let x = c.index.result.now in
    speaks_taken (λ (v : Server). ask_deactivate v c.args.act)
    (seen (λ s. (goal.Embedded-dyn g (s.boxed.vtable, s.boxed.value)).content s.boxed.value) c.args.self.now)
    (bare c.replied.new.self) c.args.inc c.args.act
    (slice_get
    (map (seen_instance (λ s. (goal.Embedded-dyn g (s.boxed.vtable, s.boxed.value)).content s.boxed.value))
    c.args.self.now.instances.items) c.args.i)
    ((seen_instance (λ s. (goal.Embedded-dyn g (s.boxed.vtable, s.boxed.value)).content s.boxed.value)) x) _ _ _
    c.view-view.result c.in-Ok-ask_deactivate.asked
    (seen_at (seen_instance (λ s. (goal.Embedded-dyn g (s.boxed.vtable, s.boxed.value)).content s.boxed.value))
    c.args.self.now.instances.items c.args.i x c.requires.fits c.index.ensures)
    c.in_ok-open.ensures.open
    c.in-Ok-ask_deactivate.ensures.told
    (if_some _ x _ (stands c.args.self.now.instances.items c.args.i x c.requires.fits c.index.ensures)
    c.view-view.ensures)
    (c.replied.ensures ∙ ap (λ b. replied b c.args.inc c.view-view.result c.in-Ok-ask_deactivate.asked None)
    (c.reply_room.ensures.kept ∙ c.open.ensures.kept))
    (sym
    (map-set_same
    (seen_instance (λ s. (goal.Embedded-dyn g (s.boxed.vtable, s.boxed.value)).content s.boxed.value))
    c.args.self.now.instances.items c.args.i x x
    (ap (seen_instance (λ s. (goal.Embedded-dyn g (s.boxed.vtable, s.boxed.value)).content s.boxed.value))
    c.index.ensures))
    ∙ set_at (seen_instance (λ s. (goal.Embedded-dyn g (s.boxed.vtable, s.boxed.value)).content s.boxed.value))
    c.args.self.now.instances.items c.args.inc c.args.i x c.requires.number)
    refl

pub returns-in-Err-clause-taken : goal.returns-in-Err-clause-taken
returns-in-Err-clause-taken g c =
    let x = c.index.result.now in
    speaks_dropped (λ (v : Server). ask_deactivate v c.args.act)
    (seen (λ s. (goal.Embedded-dyn g (s.boxed.vtable, s.boxed.value)).content s.boxed.value) c.args.self.now)
    (bare c.dropped.new.self) c.args.inc c.args.act
    (slice_get
    (map (seen_instance (λ s. (goal.Embedded-dyn g (s.boxed.vtable, s.boxed.value)).content s.boxed.value))
    c.args.self.now.instances.items) c.args.i)
    ((seen_instance (λ s. (goal.Embedded-dyn g (s.boxed.vtable, s.boxed.value)).content s.boxed.value)) x) _ _
    c.in-Err.fault
    (seen_at (seen_instance (λ s. (goal.Embedded-dyn g (s.boxed.vtable, s.boxed.value)).content s.boxed.value))
    c.args.self.now.instances.items c.args.i x c.requires.fits c.index.ensures)
    c.in_ok-open.ensures.open
    c.in-Err.ensures.refused
    (c.dropped.ensures ∙ ap (λ (b : World). record b { answers = b.answers ++ told.Dropped c.in-Err.fault ∷ [] })
    (c.reply_room.ensures.kept ∙ c.open.ensures.kept))
    refl
    refl
