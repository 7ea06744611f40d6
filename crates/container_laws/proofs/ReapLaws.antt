-- The end of a server, with frames that hand off after it.
use Rattle.std.proofs.Common.{◌≡◌, inl, inr, ℕ, List, map, Some, None, sym, ap, ◌∙◌, subst, slice_get}
use Rattle.message_values.specs.Found.{nth}
use Rattle.container_model.specs.declared.record.Frame.{Frame}
use Rattle.container_model.specs.declared.record.Object.{Object}
use Rattle.container_model.specs.Grants.{freed_claims, freed_frame}
use Rattle.container_model.specs.Messages.{reaped, reaped_grants}
use Rattle.container_model.specs.Record.{Record}
use Rattle.container_model.specs.Saves.{kept}
use Rattle.container_laws.specs.Laws.{ReapsEndTheirs, ReapsKeepOthers, StaysOrIsAsked}
use Rattle.container_laws.proofs.FreedLaws.{granted_frames}
use Rattle.container_laws.proofs.HandLaws.{SameSave, freed_same, to_asked}
use Rattle.container_laws.proofs.KeepLaws.{others_stay, reap_objects, theirs_end}
use Rattle.container_steps.proofs.HandedOff.{StaysOrHanded, each_tells}

-- the frames from then on are saved as before
module _ (r : Record) (inc : ℕ) where
  same : (g : ℕ) (y : Frame) → nth (reaped_grants r inc).rec.frames g ≡ Some y → SameSave r.frames g y
  same g y e =
      let u : Record = record (reaped r inc) { frames = map (freed_frame inc r.objects) r.frames } in
      freed_same inc r.objects r.frames g y
      (ap (λ (fs : List Frame). nth fs g) (sym (granted_frames (freed_claims inc r.objects r.frames) u)) ∙ e)

pub reaps-keep_others : ReapsKeepOthers
reaps-keep_others r inc t s e i o at other =
    let v = (reaped_grants r inc).rec in
    let told = others_stay r inc s i o at other in
    let h = each_tells 1 v.frames v i told.0 told.1 in
    subst (λ (os : List Object). (later : Object) × (slice_get os i ≡ Some later) × StaysOrIsAsked r o later)
    (sym (reap_objects r inc t e))
    (h.0, h.1, to_asked r v.frames o told.0 h.0 (same r inc) told.2 h.2)

-- an object that is passive isn't asked
passive_stays : (frames : List Frame) (o later : Object)
    → StaysOrHanded frames (record o { work = kept o; link = None }) later
    → later ≡ record o { work = kept o; link = None }
passive_stays frames o later (inl e) = e
passive_stays frames o later (inr h) = h.asked

pub reaps-end_theirs : ReapsEndTheirs
reaps-end_theirs r inc t s e i o at theirs =
    let v = (reaped_grants r inc).rec in
    let h = each_tells 1 v.frames v i (record o { work = kept o; link = None }) (theirs_end r inc s i o at theirs) in
    ap (λ (os : List Object). slice_get os i) (reap_objects r inc t e)
    ∙ (h.1 ∙ ap (λ (z : Object). Some z) (passive_stays v.frames o h.0 h.2))
