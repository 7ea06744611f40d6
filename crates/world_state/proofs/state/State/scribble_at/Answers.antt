use Rattle.std.proofs.Common.{◌∷◌, [], ◌++◌, ap, ◌∙◌, map, None, refl}
use Rattle.std.specs.Prelude.{slice_get}
use Rattle.std.proofs.Math.Seq.{map-set_same}
use Rattle.server_model.specs.Server.{Server, scribble}
use Rattle.world_state.specs.View.{seen, seen_instance}
use Rattle.world_host.specs.View.{bare}
use Rattle.world_model.specs.World.{World}
use Rattle.world_model.specs.declared.logs.EventAnswer.TheVariants as told
use Rattle.world_host.specs.Rooms.{replied}
use Rattle.world_state.proofs.Servers.{seen_at, set_at}
use Rattle.world_state.proofs.Serving.{if_some, stands, same_world, refuses_told}
use Rattle.world_state.proofs.OwnAccord.{speaks_allowed, speaks_taken, speaks_dropped}
use Rattle.world_state.proofs.state.State.scribble_at.Goals as goal

pub returns-in-Ok-scribble-clause-taken : goal.returns-in-Ok-scribble-clause-taken
returns-in-Ok-scribble-clause-taken g c =
    let x = c.index_mut.result.now in
    speaks_taken (λ (v : Server). scribble v c.args.act)
    (seen (λ s. (goal.Embedded-dyn g (s.boxed.vtable, s.boxed.value)).content s.boxed.value) c.args.self.now)
    (bare c.replied.new.self) c.args.inc c.args.act
    (slice_get
    (map (seen_instance (λ s. (goal.Embedded-dyn g (s.boxed.vtable, s.boxed.value)).content s.boxed.value))
    c.args.self.now.instances.items) c.args.i)
    ((seen_instance (λ s. (goal.Embedded-dyn g (s.boxed.vtable, s.boxed.value)).content s.boxed.value)) x) _ _ _
    c.view-view.result c.in-Ok-scribble.message
    (seen_at (seen_instance (λ s. (goal.Embedded-dyn g (s.boxed.vtable, s.boxed.value)).content s.boxed.value))
    c.args.self.now.instances.items c.args.i x c.requires.fits c.index_mut.ensures.value)
    c.in_ok-open.ensures.open
    c.in-Ok-scribble.ensures.told
    (if_some _ x _ (stands c.args.self.now.instances.items c.args.i x c.requires.fits c.index_mut.ensures.value)
    c.view-view.ensures)
    (c.replied.ensures ∙ ap (λ b. replied b c.args.inc c.view-view.result c.in-Ok-scribble.message None)
    (c.reply_room.ensures.kept ∙ c.open.ensures.kept))
    (set_at (seen_instance (λ s. (goal.Embedded-dyn g (s.boxed.vtable, s.boxed.value)).content s.boxed.value))
    c.args.self.now.instances.items c.args.inc c.args.i (record { life = x.life; core = c.scribble.new.self })
    c.requires.number)
    refl

pub returns-in-NoMemory-clause-refused : goal.returns-in-NoMemory-clause-refused
returns-in-NoMemory-clause-refused g c =
    let x = c.index_mut.result.now in
    speaks_allowed (λ (v : Server). scribble v c.args.act)
    (seen (λ s. (goal.Embedded-dyn g (s.boxed.vtable, s.boxed.value)).content s.boxed.value) c.args.self.now)
    c.args.inc c.args.act
    (slice_get
    (map (seen_instance (λ s. (goal.Embedded-dyn g (s.boxed.vtable, s.boxed.value)).content s.boxed.value))
    c.args.self.now.instances.items) c.args.i)
    ((seen_instance (λ s. (goal.Embedded-dyn g (s.boxed.vtable, s.boxed.value)).content s.boxed.value)) x)
    (seen_at (seen_instance (λ s. (goal.Embedded-dyn g (s.boxed.vtable, s.boxed.value)).content s.boxed.value))
    c.args.self.now.instances.items c.args.i x c.requires.fits c.index_mut.ensures.value)
    c.in_ok-open.ensures.open

pub returns-in-NoMemory-clause-kept : goal.returns-in-NoMemory-clause-kept
returns-in-NoMemory-clause-kept g c =
    let x = c.index_mut.result.now in
    same_world _ _ _ _ _ _ (c.reply_room.ensures.kept ∙ c.open.ensures.kept)
    (map-set_same (seen_instance (λ s. (goal.Embedded-dyn g (s.boxed.vtable, s.boxed.value)).content s.boxed.value))
    c.args.self.now.instances.items c.args.i (record { life = x.life; core = c.scribble.new.self }) x
    (ap (λ (k : Server).
    record ((seen_instance (λ s. (goal.Embedded-dyn g (s.boxed.vtable, s.boxed.value)).content s.boxed.value))
    x) { core = k }) c.in-Err.ensures.kept
    ∙ ap (seen_instance (λ s. (goal.Embedded-dyn g (s.boxed.vtable, s.boxed.value)).content s.boxed.value))
    c.index_mut.ensures.value))
    refl

pub returns : goal.returns
returns g c =
    let x = c.index_mut.result.now in
    record {
      taken = speaks_dropped (λ (v : Server). scribble v c.args.act)
          (seen (λ s. (goal.Embedded-dyn g (s.boxed.vtable, s.boxed.value)).content s.boxed.value) c.args.self.now)
          (bare c.dropped.new.self) c.args.inc c.args.act
          (slice_get
          (map (seen_instance (λ s. (goal.Embedded-dyn g (s.boxed.vtable, s.boxed.value)).content s.boxed.value))
          c.args.self.now.instances.items) c.args.i)
          ((seen_instance (λ s. (goal.Embedded-dyn g (s.boxed.vtable, s.boxed.value)).content s.boxed.value)) x) _ _
          c.in-Err.fault
          (seen_at (seen_instance (λ s. (goal.Embedded-dyn g (s.boxed.vtable, s.boxed.value)).content
          s.boxed.value)) c.args.self.now.instances.items c.args.i x c.requires.fits c.index_mut.ensures.value)
          c.in_ok-open.ensures.open
          (refuses_told _ c.in-Err.fault c.in-Err.ensures.refused c.in_default-fault.not-NoMemory)
          (c.dropped.ensures
          ∙ ap (λ (b : World). record b { answers = b.answers ++ told.Dropped c.in-Err.fault ∷ [] })
          (c.reply_room.ensures.kept ∙ c.open.ensures.kept))
          (map-set_same
          (seen_instance (λ s. (goal.Embedded-dyn g (s.boxed.vtable, s.boxed.value)).content s.boxed.value))
          c.args.self.now.instances.items c.args.i (record { life = x.life; core = c.scribble.new.self }) x
          (ap (λ (k : Server).
          record ((seen_instance (λ s. (goal.Embedded-dyn g (s.boxed.vtable, s.boxed.value)).content
          s.boxed.value)) x) { core = k }) c.in-Err.ensures.kept
          ∙ ap (seen_instance (λ s. (goal.Embedded-dyn g (s.boxed.vtable, s.boxed.value)).content
          s.boxed.value)) c.index_mut.ensures.value))
          refl;
      refused = tt;
      kept = tt;
    }
