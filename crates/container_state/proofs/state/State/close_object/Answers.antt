use Rattle.std.proofs.Common.{◌≡◌, ◌∙◌, Some, Ok, ap, slice_get, sym, refl}
use Rattle.container_model.specs.Numbered.{IsNth}
use Rattle.container_model.specs.Record.{Record, Refuses, acts, counts_none, with_frame, with_object}
use Rattle.container_model.specs.Verbs.{close_linked}
use Rattle.container_model.specs.declared.record.Frame.{Frame}
use Rattle.container_model.specs.declared.record.Object.{Object}
use Rattle.container_commands.proofs.VerbsPlaced.{both_changed, both_here, both_taken, frame_here, in_frame}
use Rattle.container_commands.proofs.VerbsPlaced.{object_here, own_here}
use Rattle.container_checks.proofs.Numbers.{one_kept}
use Rattle.container_state.proofs.state.State.close_object.Goals as goal

pub returns-in-Err-clause-refused : goal.returns-in-Err-clause-refused
returns-in-Err-clause-refused c =
    let r : Record = c.args.self.now in
    let o : Object = c.index_mut-object.result.now in
    let frame : Frame = c.index_mut-frame.result.now in
    let here : slice_get r.objects c.args.i ≡ Some o = object_here _ r c.args.i o c.self.view_is
    c.requires.place.fits c.index_mut-object.ensures.value in
    let at : IsNth o.frame r.frames c.args.at = in_frame r c.args.i c.args.at o here c.requires.frame in
    both_here (λ x y. Refuses (close_linked r y x c.args.option x.link) c.in-Err.fault) r c.args.i c.args.at o frame
    here (frame_here _ r c.args.at frame c.self.view_is at.fits c.index_mut-frame.ensures.value)
    (c.in-Err.ensures.refused r (ap (λ t. t.numbers) (sym c.self.view_is)))

pub returns-clause-taken : goal.returns-clause-taken
returns-clause-taken c =
    let r : Record = c.args.self.now in
    let o : Object = c.index_mut-object.result.now in
    let frame : Frame = c.index_mut-frame.result.now in
    let here : slice_get r.objects c.args.i ≡ Some o = object_here _ r c.args.i o c.self.view_is
    c.requires.place.fits c.index_mut-object.ensures.value in
    let at : IsNth o.frame r.frames c.args.at = in_frame r c.args.i c.args.at o here c.requires.frame in
    let stands : slice_get r.frames c.args.at ≡ Some frame = frame_here _ r c.args.at frame c.self.view_is at.fits
    c.index_mut-frame.ensures.value in
    both_here (λ x y. close_linked r y x c.args.option x.link ≡ Ok (counts_none _ c.acts.result)) r c.args.i
    c.args.at o frame here stands
    (both_taken (close_linked r frame o c.args.option o.link)
    (with_object (with_frame r o.frame c.close_one.new.frame) c.close_one.new.object) _ (acts c.in-Ok.actions)
    c.acts.result
    (c.in-Ok.ensures.taken r (ap (λ t. t.numbers) (sym c.self.view_is)) (at.found ∙ stands))
    (both_changed _ r _ c.args.i c.args.at o c.close_one.new.object c.close_one.new.frame c.self.view_is
    (own_here r c.args.i o here c.requires.place) at c.in-Ok.ensures.same refl)
    c.acts.ensures)

pub invariant_of-self-inside : goal.invariant_of-self-inside
invariant_of-self-inside c = (
  one_kept c.self.inside.objects.list.items c.args.i c.close_one.new.object c.index_mut-object.result.now
      c.self.inside.objects.rising c.index_mut-object.ensures.value c.close_one.ensures.same,
  tt,
)
