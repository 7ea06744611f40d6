-- Records whose frames stay, and their session, while objects are asked, grants move and saves go on.
use Rattle.std.proofs.Common.{◌≡◌, ◌≢◌, ◌+◌, ℕ, List, [], ◌∷◌, map, Option, Some, None, refl}
use Rattle.message_values.specs.Found.{find, nth, set_nth}
use Rattle.message_values.specs.declared.operation.Operation.{Operation}
use Rattle.message_values.specs.declared.operation.Operation.TheVariants.{UiActivate, UiDeactivate}
use Rattle.object_state.specs.declared.verbs.Step.{Step}
use Rattle.object_state.specs.Frames.{after}
use Rattle.object_state.specs.Grants as grant
use Rattle.object_state.specs.Grants.{Event}
use Rattle.object_state.specs.declared.grant_states.Claim.{Claim}
use Rattle.container_model.specs.declared.grants.Tells.{Tells}
use Rattle.container_model.specs.declared.record.Frame.{Frame}
use Rattle.container_model.specs.declared.record.Link.{Link}
use Rattle.container_model.specs.declared.record.Object.{Object}
use Rattle.container_model.specs.Commands.{save_made, saving, saving_frame, saving_on}
use Rattle.container_model.specs.Grants.{Requested, event_of, freed_claims, freed_frame, grant_each, grant_of, moved}
use Rattle.container_model.specs.Grants.{passed_to, regranted, regranted_by, regranted_in, request, requested}
use Rattle.container_model.specs.HandOffs.{hand_off_at, hand_off_each, hand_off_in, handed_off, handing_frame}
use Rattle.container_model.specs.HandOffs.{hands_off, is_answered, unasked}
use Rattle.container_model.specs.Messages.{Replied, reap_made, reaped, reaped_grants, reaped_saving, relieved}
use Rattle.container_model.specs.Messages.{replied_grant, replied_record, replied_saving, reply_made}
use Rattle.container_model.specs.Record.{Record, is_object, with_frame}
use Rattle.container_model.specs.Saves.{settle}
use Rattle.container_model.specs.Verbs.{claim_of, claimed, gives_up, holder_of, leaving_made, left, revoked_at}
use Rattle.container_model.specs.Verbs.{taking_made}
use Rattle.container_steady.proofs.SteadyTells.{if_told}
use Rattle.container_frames.specs.Frames.{FrameStays, FramesStay}
use Rattle.container_frames.proofs.Stays.{frames_after, frames_freed, frames_same, frames_set, frames_settled}
use Rattle.container_frames.proofs.Stays.{grant_stays, handing_stays, saving_stays}

-- the frames of a record, and its session, after moves
pub record RecordStays (s : ℕ) (r v : Record) : Type 0 where
  pub frames : FramesStay s r.frames v.frames
  pub session : v.session ≡ r.session

-- one more frame changed
pub changes : (s : ℕ) (r v : Record) (f : ℕ) (old new : Frame) → nth v.frames f ≡ Some old → FrameStays s old new
    → RecordStays s r v → RecordStays s r (with_frame v f new)
changes s r v f old new at k h =
    record {
      frames = frames_after s r.frames v.frames (set_nth v.frames f new) h.frames
          (frames_set s v.frames f old new at k);
      session = h.session;
    }

pub unmoved : (s : ℕ) (r : Record) → RecordStays s r r
unmoved s r = record { frames = frames_same s r.frames; session = refl }

-- ---- objects that are asked by their numbers
requests_found : (s : ℕ) (r v : Record) (op : Operation) (o : Option Object) → RecordStays s r v
    → RecordStays s r (requested v op o).rec
requests_found s r v op None h = h
requests_found s r v op (Some o) h = record { frames = h.frames; session = h.session }

requests : (s : ℕ) (r v : Record) (n : ℕ) (op : Operation) → RecordStays s r v → RecordStays s r (request v n op).rec
requests s r v n op h = requests_found s r v op (find (is_object n) v.objects) h

grants_each : (s : ℕ) (r v : Record) (claims : List Claim) → RecordStays s r v
    → RecordStays s r (grant_each v claims).rec
grants_each s r v [] h = h
grants_each s r v (c ∷ cs) h = grants_each s r (request v c.object (UiActivate c.g)).rec cs
    (requests s r v c.object (UiActivate c.g) h)

-- ---- frames that hand off, and saves that go on
hands : (s : ℕ) (r v : Record) (f : ℕ) (frame : Option Frame) → nth v.frames f ≡ frame → RecordStays s r v
    → RecordStays s r (hand_off_at v f frame).rec
hands s r v f None at h = h
hands s r v f (Some frame) at h = if_told (λ (z : Requested). RecordStays s r z.rec) (hands_off f v.objects frame)
    (handed_off v f frame) (unasked v)
    (λ t. let c = changes s r v f frame (handing_frame frame) at (handing_stays s f v.objects frame t) h in
    record { frames = c.frames; session = c.session })
    (λ t. h)

hands_in : (s : ℕ) (r v : Record) (f : ℕ) → RecordStays s r v → RecordStays s r (hand_off_in v f).rec
hands_in s r v f h = hands s r v f (nth v.frames f) refl h

hands_each : (s : ℕ) (r : Record) (f : ℕ) (frames : List Frame) (v : Record) → RecordStays s r v
    → RecordStays s r (hand_off_each f frames v).rec
hands_each s r f [] v h = h
hands_each s r f (x ∷ xs) v h = hands_each s r (f + 1) xs (hand_off_in v f).rec (hands_in s r v f h)

settles : (s : ℕ) (r v : Record) → RecordStays s r v → RecordStays s r (settle v)
settles s r v h = record {
  frames = frames_after s r.frames v.frames (settle v).frames h.frames
      (frames_settled s 1 v.objects v.frames);
  session = h.session;
}

-- a save that begins
pub saves : (s : ℕ) (r : Record) (f : ℕ) (frame : Frame) (raised : Option ℕ) (asked : Option (List ℕ))
    → nth r.frames f ≡ Some frame → (s ≡ 0 → raised ≢ None)
    → RecordStays s r (save_made r f frame raised asked).rec
saves s r f frame raised asked at k =
    let new : Frame = saving_frame raised asked frame in
    let base : RecordStays s r (saving r f frame raised asked) =
    record {
      frames = frames_set s r.frames f frame new at (saving_stays s frame raised asked k);
      session = refl;
    } in
    settles s r (saving_on r f frame raised asked).rec (hands_in s r (saving r f frame raised asked) f base)

-- ---- a frame's grant
moves : (s : ℕ) (r v : Record) (f : ℕ) (frame : Frame) (e : Event) → nth v.frames f ≡ Some frame → RecordStays s r v
    → RecordStays s r (with_frame v f (moved frame e))
moves s r v f frame e at h = changes s r v f frame (moved frame e) at (grant_stays s frame (after frame.ui e)) h

regrants : (s : ℕ) (r v : Record) (f : ℕ) (frame : Frame) (e : Option Event) → nth v.frames f ≡ Some frame
    → RecordStays s r v → RecordStays s r (regranted_by v f frame e).rec
regrants s r v f frame None at h = h
regrants s r v f frame (Some e) at h = grants_each s r (with_frame v f (moved frame e))
    (passed_to frame.ui.state (after frame.ui e).state) (moves s r v f frame e at h)

regrants_in : (s : ℕ) (r v : Record) (f : ℕ) (tells : Tells) (frame : Option Frame) → nth v.frames f ≡ frame
    → RecordStays s r v → RecordStays s r (regranted_in v f tells frame).rec
regrants_in s r v f tells None at h = h
regrants_in s r v f tells (Some frame) at h = regrants s r v f frame (event_of frame.ui.state tells) at h

regrants_by : (s : ℕ) (r v : Record) (f : ℕ) (tells : Option Tells) → RecordStays s r v
    → RecordStays s r (regranted v f tells).rec
regrants_by s r v f None h = h
regrants_by s r v f (Some tells) h = regrants_in s r v f tells (nth v.frames f) refl h

-- ---- steps of an object, that leave its frame and that take it
pub leaves : (s : ℕ) (r : Record) (frame : Frame) (o : Object) (l : Link) (ts : List Step)
    → nth r.frames o.frame ≡ Some frame → RecordStays s r (leaving_made r frame o l ts).rec
leaves s r frame o l ts at =
    let event : Event = grant.Ask (claim_of o l (grant_of frame.ui.state)) in
    let base : RecordStays s r (left r frame o l ts) = if_told (RecordStays s r) (gives_up ts)
    (with_frame r o.frame (moved frame event)) r
    (λ t. moves s r r o.frame frame event at (unmoved s r)) (λ t. unmoved s r) in
    record { frames = base.frames; session = base.session }

revokes : (s : ℕ) (r v : Record) (holder : Option ℕ) → RecordStays s r v → RecordStays s r (revoked_at v holder).rec
revokes s r v None h = h
revokes s r v (Some n) h = requests s r v n UiDeactivate h

pub takes : (s : ℕ) (r : Record) (frame : Frame) (o : Object) (l : Link) (ts : List Step)
    → nth r.frames o.frame ≡ Some frame → RecordStays s r (taking_made r frame o l ts).rec
takes s r frame o l ts at =
    let first = moves s r r o.frame frame (grant.Ask (claim_of o l (r.last_g + 1))) at (unmoved s r) in
    let drawn : RecordStays s r (claimed r frame o l) = record { frames = first.frames; session = first.session } in
    let base = revokes s r (claimed r frame o l) (holder_of frame.ui.state) drawn in
    record { frames = base.frames; session = base.session }

-- ---- a reply
pub replies : (s : ℕ) (r : Record) (inc act : ℕ) (o : Object) (re : Replied)
    → RecordStays s r (reply_made r inc act o re).rec
replies s r inc act o re =
    let put_in : RecordStays s r (replied_record r inc act o re) =
    record { frames = frames_same s r.frames; session = refl } in
    let granted = replied_grant r inc act o re in
    let passed : RecordStays s r granted.rec = regrants_by s r (replied_record r inc act o re) o.frame re.grant
    put_in in
    let last : RecordStays s r (replied_saving r inc act o re).rec =
    if_told (λ (z : Requested). RecordStays s r z.rec) (is_answered o.link re.link)
    (hand_off_in granted.rec o.frame) (unasked granted.rec)
    (λ t. hands_in s r granted.rec o.frame passed) (λ t. passed) in
    settles s r (replied_saving r inc act o re).rec last

-- ---- an object that asks to be relieved of its frame
pub relieves : (s : ℕ) (r : Record) (o : Object) (act g : ℕ) (frame : Frame) → nth r.frames o.frame ≡ Some frame
    → RecordStays s r (relieved r o act g frame).rec
relieves s r o act g frame at =
    let event : Event = grant.Ask (record { object = o.number; act = act; g = g }) in
    requests s r (with_frame r o.frame (moved frame event)) o.number UiDeactivate
    (moves s r r o.frame frame event at (unmoved s r))

-- ---- the end of a server
pub reaps : (s : ℕ) (r : Record) (inc : ℕ) → RecordStays s r (reap_made r inc).rec
reaps s r inc =
    let free : Record = record (reaped r inc) { frames = map (freed_frame inc r.objects) r.frames } in
    let base : RecordStays s r free = record { frames = frames_freed s inc r.objects r.frames; session = refl } in
    let granted : RecordStays s r (reaped_grants r inc).rec =
    grants_each s r free (freed_claims inc r.objects r.frames) base in
    let last : RecordStays s r (reaped_saving r inc).rec = hands_each s r 1 (reaped_grants r inc).rec.frames
    (reaped_grants r inc).rec granted in
    settles s r (reaped_saving r inc).rec last
