use Rattle.std.proofs.Common.{◌∷◌, [], ◌++◌, ap, ◌∙◌, map}
use Rattle.std.specs.Prelude.{slice_get}
use Rattle.std.specs.List.{remove}
use Rattle.std.proofs.lemmas.List.{length-map}
use Rattle.std.proofs.Math.Seq.{map-set_same}
use Rattle.server_model.specs.Server.{Server}
use Rattle.world_state.specs.View.{seen, seen_instance, seen_stocked}
use Rattle.world_host.specs.View.{bare}
use Rattle.world_model.specs.World.{World}
use Rattle.world_model.specs.declared.logs.EventAnswer.TheVariants as told
use Rattle.world_host.specs.Rooms.{replied}
use Rattle.world_state.proofs.Servers.{seen_at, set_at}
use Rattle.world_state.proofs.Stocks.{removed, stock_back, kind_back}
use Rattle.world_state.proofs.Serving.{if_some, stands, serve_allowed, serve_taken, serve_dropped, same_world}
use Rattle.world_state.proofs.Serving.{refuses_told}
use Rattle.world_state.proofs.state.State.begin.Goals as goal

pub returns-in-Ok-on_call-clause-taken : goal.returns-in-Ok-on_call-clause-taken
returns-in-Ok-on_call-clause-taken g c =
    let x = c.index_mut.result.now in
    serve_taken (seen (λ s. (goal.Embedded-dyn g (s.boxed.vtable, s.boxed.value)).content s.boxed.value)
    c.args.self.now) (bare c.replied.new.self) c.args.session c.args.inc c.args.act c.args.n c.args.operation
    (remove
    (map (seen_stocked (λ s. (goal.Embedded-dyn g (s.boxed.vtable, s.boxed.value)).content s.boxed.value))
    c.args.self.now.stock.boxes.items) c.args.at)
    (slice_get
    (map (seen_stocked (λ s. (goal.Embedded-dyn g (s.boxed.vtable, s.boxed.value)).content s.boxed.value))
    c.args.self.now.stock.boxes.items) c.args.at)
    (slice_get
    (map (seen_instance (λ s. (goal.Embedded-dyn g (s.boxed.vtable, s.boxed.value)).content s.boxed.value))
    c.args.self.now.instances.items) c.args.i)
    ((seen_instance (λ s. (goal.Embedded-dyn g (s.boxed.vtable, s.boxed.value)).content s.boxed.value)) x) _ _ _
    _ c.view-view.result c.in-Ok-on_call.reaction.reply c.in-Ok-on_call.reaction.counted
    (seen_at (seen_instance (λ s. (goal.Embedded-dyn g (s.boxed.vtable, s.boxed.value)).content s.boxed.value))
    c.args.self.now.instances.items c.args.i x c.requires.place.fits c.index_mut.ensures.value)
    c.in_ok-open.ensures.open
    (seen_at (seen_stocked (λ s. (goal.Embedded-dyn g (s.boxed.vtable, s.boxed.value)).content s.boxed.value))
    c.args.self.now.stock.boxes.items c.args.at c.remove-boxed.result c.requires.stock
    c.remove-boxed.ensures.value)
    c.in-Ok-on_call.ensures.acted
    (if_some _ x _ (stands c.args.self.now.instances.items c.args.i x c.requires.place.fits
    c.index_mut.ensures.value) c.view-view.ensures)
    (c.replied.ensures ∙ ap (λ b. replied b c.args.inc c.view-view.result c.in-Ok-on_call.reaction.reply
    c.in-Ok-on_call.reaction.counted) (c.reply_room.ensures.kept ∙ c.open.ensures.kept))
    (set_at (seen_instance (λ s. (goal.Embedded-dyn g (s.boxed.vtable, s.boxed.value)).content s.boxed.value))
    c.args.self.now.instances.items c.args.inc c.args.i (record { life = x.life; core = c.on_call.new.self })
    c.requires.place.number)
    (ap (map (seen_stocked (λ s. (goal.Embedded-dyn g (s.boxed.vtable, s.boxed.value)).content s.boxed.value)))
    c.remove-boxed.ensures.items
    ∙ removed (seen_stocked (λ s. (goal.Embedded-dyn g (s.boxed.vtable, s.boxed.value)).content s.boxed.value))
    c.args.self.now.stock.boxes.items c.args.at)

pub returns-in-NoMemory-clause-refused : goal.returns-in-NoMemory-clause-refused
returns-in-NoMemory-clause-refused g c =
    let x = c.index_mut.result.now in
    serve_allowed (seen (λ s. (goal.Embedded-dyn g (s.boxed.vtable, s.boxed.value)).content s.boxed.value)
    c.args.self.now) c.args.session c.args.inc c.args.act c.args.n c.args.operation
    (remove
    (map (seen_stocked (λ s. (goal.Embedded-dyn g (s.boxed.vtable, s.boxed.value)).content s.boxed.value))
    c.args.self.now.stock.boxes.items) c.args.at)
    (slice_get
    (map (seen_stocked (λ s. (goal.Embedded-dyn g (s.boxed.vtable, s.boxed.value)).content s.boxed.value))
    c.args.self.now.stock.boxes.items) c.args.at)
    (slice_get
    (map (seen_instance (λ s. (goal.Embedded-dyn g (s.boxed.vtable, s.boxed.value)).content s.boxed.value))
    c.args.self.now.instances.items) c.args.i)
    ((seen_instance (λ s. (goal.Embedded-dyn g (s.boxed.vtable, s.boxed.value)).content s.boxed.value)) x)
    (seen_at (seen_instance (λ s. (goal.Embedded-dyn g (s.boxed.vtable, s.boxed.value)).content s.boxed.value))
    c.args.self.now.instances.items c.args.i x c.requires.place.fits c.index_mut.ensures.value)
    c.in_ok-open.ensures.open

pub returns-in-NoMemory-clause-kept : goal.returns-in-NoMemory-clause-kept
returns-in-NoMemory-clause-kept g c =
    let x = c.index_mut.result.now in
    c.put_back.ensures.put ∙ same_world _ _ _ _ _ _ (c.reply_room.ensures.kept ∙ c.open.ensures.kept)
    (map-set_same (seen_instance (λ s. (goal.Embedded-dyn g (s.boxed.vtable, s.boxed.value)).content s.boxed.value))
    c.args.self.now.instances.items c.args.i (record { life = x.life; core = c.on_call.new.self }) x
    (ap (λ (k : Server).
    record ((seen_instance (λ s. (goal.Embedded-dyn g (s.boxed.vtable, s.boxed.value)).content s.boxed.value))
    x) { core = k }) c.in-Err.ensures.kept
    ∙ ap (seen_instance (λ s. (goal.Embedded-dyn g (s.boxed.vtable, s.boxed.value)).content s.boxed.value))
    c.index_mut.ensures.value))
    (stock_back
    (map (seen_stocked (λ s. (goal.Embedded-dyn g (s.boxed.vtable, s.boxed.value)).content s.boxed.value))
    c.args.self.now.stock.boxes.items) _ c.args.at
    ((seen_stocked (λ s. (goal.Embedded-dyn g (s.boxed.vtable, s.boxed.value)).content s.boxed.value))
    c.remove-boxed.result) _
    (ap (map (seen_stocked (λ s. (goal.Embedded-dyn g (s.boxed.vtable, s.boxed.value)).content s.boxed.value)))
    c.remove-boxed.ensures.items
    ∙ removed (seen_stocked (λ s. (goal.Embedded-dyn g (s.boxed.vtable, s.boxed.value)).content s.boxed.value))
    c.args.self.now.stock.boxes.items c.args.at)
    (seen_at (seen_stocked (λ s. (goal.Embedded-dyn g (s.boxed.vtable, s.boxed.value)).content s.boxed.value))
    c.args.self.now.stock.boxes.items c.args.at c.remove-boxed.result c.requires.stock
    c.remove-boxed.ensures.value)
    (rw (length-map c.args.self.now.stock.boxes.items
    (seen_stocked (λ s. (goal.Embedded-dyn g (s.boxed.vtable, s.boxed.value)).content s.boxed.value)))
    c.requires.stock)
    (kind_back (λ y. (goal.Embedded-dyn g (y.vtable, y.value)).content y.value) c.in-Err.refusal.back _
    c.in-Err.ensures.handed_back))

pub returns : goal.returns
returns g c =
    let x = c.index_mut.result.now in
    record {
      taken = serve_dropped (seen (λ s. (goal.Embedded-dyn g (s.boxed.vtable, s.boxed.value)).content s.boxed.value)
          c.args.self.now) (bare c.dropped.new.self) c.args.session c.args.inc c.args.act c.args.n c.args.operation
          (remove
          (map (seen_stocked (λ s. (goal.Embedded-dyn g (s.boxed.vtable, s.boxed.value)).content s.boxed.value))
          c.args.self.now.stock.boxes.items) c.args.at)
          (slice_get
          (map (seen_stocked (λ s. (goal.Embedded-dyn g (s.boxed.vtable, s.boxed.value)).content s.boxed.value))
          c.args.self.now.stock.boxes.items) c.args.at)
          (slice_get
          (map (seen_instance (λ s. (goal.Embedded-dyn g (s.boxed.vtable, s.boxed.value)).content s.boxed.value))
          c.args.self.now.instances.items) c.args.i)
          ((seen_instance (λ s. (goal.Embedded-dyn g (s.boxed.vtable, s.boxed.value)).content s.boxed.value)) x) _ _
          _ c.in-Err.refusal.fault
          (seen_at (seen_instance (λ s. (goal.Embedded-dyn g (s.boxed.vtable, s.boxed.value)).content
          s.boxed.value)) c.args.self.now.instances.items c.args.i x c.requires.place.fits
          c.index_mut.ensures.value)
          c.in_ok-open.ensures.open
          (seen_at (seen_stocked (λ s. (goal.Embedded-dyn g (s.boxed.vtable, s.boxed.value)).content s.boxed.value))
          c.args.self.now.stock.boxes.items c.args.at c.remove-boxed.result c.requires.stock
          c.remove-boxed.ensures.value)
          (refuses_told _ c.in-Err.refusal.fault c.in-Err.ensures.refused c.in_default-fault.not-NoMemory)
          (c.dropped.ensures
          ∙ ap (λ (b : World). record b { answers = b.answers ++ told.Dropped c.in-Err.refusal.fault ∷ [] })
          (ap bare c.put_back.ensures.host ∙ (c.reply_room.ensures.kept ∙ c.open.ensures.kept)))
          (ap (λ (v : World). v.instances) c.put_back.ensures.put
          ∙ (map-set_same
          (seen_instance (λ s. (goal.Embedded-dyn g (s.boxed.vtable, s.boxed.value)).content s.boxed.value))
          c.args.self.now.instances.items c.args.i (record { life = x.life; core = c.on_call.new.self }) x
          (ap (λ (k : Server).
          record ((seen_instance (λ s. (goal.Embedded-dyn g (s.boxed.vtable, s.boxed.value)).content
          s.boxed.value)) x) { core = k }) c.in-Err.ensures.kept
          ∙ ap (seen_instance (λ s. (goal.Embedded-dyn g (s.boxed.vtable, s.boxed.value)).content
          s.boxed.value)) c.index_mut.ensures.value)))
          (ap (λ (v : World). v.stock) c.put_back.ensures.put
          ∙ (stock_back
          (map (seen_stocked (λ s. (goal.Embedded-dyn g (s.boxed.vtable, s.boxed.value)).content s.boxed.value))
          c.args.self.now.stock.boxes.items) _ c.args.at
          ((seen_stocked (λ s. (goal.Embedded-dyn g (s.boxed.vtable, s.boxed.value)).content s.boxed.value))
          c.remove-boxed.result) _
          (ap
          (map (seen_stocked (λ s. (goal.Embedded-dyn g (s.boxed.vtable, s.boxed.value)).content
          s.boxed.value))) c.remove-boxed.ensures.items
          ∙ removed (seen_stocked (λ s. (goal.Embedded-dyn g (s.boxed.vtable, s.boxed.value)).content
          s.boxed.value)) c.args.self.now.stock.boxes.items c.args.at)
          (seen_at (seen_stocked (λ s. (goal.Embedded-dyn g (s.boxed.vtable, s.boxed.value)).content
          s.boxed.value)) c.args.self.now.stock.boxes.items c.args.at c.remove-boxed.result c.requires.stock
          c.remove-boxed.ensures.value)
          (rw (length-map c.args.self.now.stock.boxes.items
          (seen_stocked (λ s. (goal.Embedded-dyn g (s.boxed.vtable, s.boxed.value)).content s.boxed.value)))
          c.requires.stock)
          (kind_back (λ y. (goal.Embedded-dyn g (y.vtable, y.value)).content y.value) c.in-Err.refusal.back _
          c.in-Err.ensures.handed_back)));
      refused = tt;
      kept = tt;
    }
