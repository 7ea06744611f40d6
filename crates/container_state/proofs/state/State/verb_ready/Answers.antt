use Rattle.std.proofs.Common.{◌≡◌, ◌∙◌, Ok, Some, slice_get, subst, sym}
use Rattle.std.proofs.lemmas.Result.{IfErr-weaker, IfOk-weaker}
use Rattle.container_model.specs.declared.record.Frame.{Frame}
use Rattle.container_model.specs.declared.record.Object.{Object}
use Rattle.container_model.specs.Numbered.{IsNth}
use Rattle.container_model.specs.Record.{Record, Refuses, counts_none}
use Rattle.container_model.specs.Verbs.{verb_framed, verb_linked}
use Rattle.container_objects.proofs.VerbsTake.{item_at}
use Rattle.container_commands.proofs.VerbsPlaced.{both_here, each_both, frame_here, in_frame}
use Rattle.container_state.proofs.state.State.verb_ready.Goals as goal

pub returns-in-Ok-clause-taken : goal.returns-in-Ok-clause-taken
returns-in-Ok-clause-taken c =
    let r : Record = c.args.self.now in
    let y : Frame = c.index.result.now in
    let x : (o : Object) × (slice_get r.objects c.args.i ≡ Some o) = item_at r.objects c.args.i c.requires.place.fits in
    let place : IsNth x.0.frame r.frames c.args.at = in_frame r c.args.i c.args.at x.0 x.1 c.requires.frame in
    let there : slice_get r.frames c.args.at ≡ Some y = frame_here _ r c.args.at y c.self.view_is place.fits
    c.index.ensures in
    IfOk-weaker c.verb_object.result _ _
    (λ a made. each_both (λ o f. verb_linked r f o c.args.verb o.link
    ≡ Ok (counts_none c.verb_object.new.self a)) (λ o f. verb_framed r c.args.verb o f
    ≡ Ok (counts_none c.verb_object.new.self a))
    (slice_get r.objects c.args.i) (slice_get r.frames c.args.at) y there (λ o h. c.in-Ok.ensures.may r o ∙ h) made)
    c.verb_object.ensures.taken

pub returns-in-Ok-clause-refused : goal.returns-in-Ok-clause-refused
returns-in-Ok-clause-refused c =
    let r : Record = c.args.self.now in
    let y : Frame = c.index.result.now in
    let x : (o : Object) × (slice_get r.objects c.args.i ≡ Some o) = item_at r.objects c.args.i c.requires.place.fits in
    let place : IsNth x.0.frame r.frames c.args.at = in_frame r c.args.i c.args.at x.0 x.1 c.requires.frame in
    let there : slice_get r.frames c.args.at ≡ Some y = frame_here _ r c.args.at y c.self.view_is place.fits
    c.index.ensures in
    IfErr-weaker c.verb_object.result _ _
    (λ e told. each_both (λ o f. Refuses (verb_linked r f o c.args.verb o.link) e)
    (λ o f. Refuses (verb_framed r c.args.verb o f) e)
    (slice_get r.objects c.args.i) (slice_get r.frames c.args.at) y there
    (λ o h. subst (λ t. Refuses t e) (sym (c.in-Ok.ensures.may r o)) h) told) c.verb_object.ensures.refused

pub returns-in-Err-clause-refused : goal.returns-in-Err-clause-refused
returns-in-Err-clause-refused c =
    let r : Record = c.args.self.now in
    let y : Frame = c.index.result.now in
    let x : (o : Object) × (slice_get r.objects c.args.i ≡ Some o) = item_at r.objects c.args.i c.requires.place.fits in
    let place : IsNth x.0.frame r.frames c.args.at = in_frame r c.args.i c.args.at x.0 x.1 c.requires.frame in
    let there : slice_get r.frames c.args.at ≡ Some y = frame_here _ r c.args.at y c.self.view_is place.fits
    c.index.ensures in
    both_here (λ o f. Refuses (verb_framed r c.args.verb o f) c.in-Err.fault) r c.args.i c.args.at x.0 y x.1 there
    (c.in-Err.ensures.refused r x.0)
