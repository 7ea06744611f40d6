-- Steps that move grants and ask objects: frames keep all but their grants, and objects their numbers and frames.
use Rattle.std.proofs.Common.{◌≡◌, ◌==◌, ℕ, zero, suc, ◌+◌, Bool, true, false, List, [], ◌∷◌, length, map, Option, Some}
use Rattle.std.proofs.Common.{None, refl, sym, ap, ◌∙◌, subst, slice_get, if◌then◌else◌}
use Rattle.std.proofs.lemmas.Bool.{eqb-true}
use Rattle.message_values.specs.Found.{find, put, nth}
use Rattle.message_values.specs.declared.operation.Operation.{Operation}
use Rattle.message_values.specs.declared.operation.Operation.TheVariants.{HandsOff, UiActivate}
use Rattle.object_state.specs.Grants.{Event}
use Rattle.object_state.specs.Frames.{Ui, after}
use Rattle.object_state.specs.declared.grant_states.Claim.{Claim}
use Rattle.container_model.specs.declared.grants.Tells.{Tells}
use Rattle.container_model.specs.declared.record.Object.{Object}
use Rattle.container_model.specs.declared.record.Frame.{Frame}
use Rattle.container_model.specs.Record.{Record, is_object, asked_link, asked_object, with_frame, with_object}
use Rattle.container_model.specs.Grants.{requested, request, grant_each, passed_to, moved, event_of, regranted_by}
use Rattle.container_model.specs.Grants.{regranted_in, regranted, freed_frame, freed_claims, free_grants}
use Rattle.container_model.specs.HandOffs.{hand_off, hand_off_at, hand_off_each, hand_off_in, handed_off, handing_frame}
use Rattle.container_model.specs.HandOffs.{hands_off, unasked as not_handed}
use Rattle.container_model.specs.Saves.{settle}
use Rattle.world_files.specs.Files.{Id, id_of, IsSameFrame, AreSameFrames}
use Rattle.world_facts.proofs.Lookups.{map_put, map_map_same, find_passes}
use Rattle.world_files.proofs.Frames.{handing_same, same_frames, same_frames_after, settled_same, set_same}

pub record IsMoved (r v : Record) : Type 0 where
  pub frames : AreSameFrames r.frames v.frames
  pub ids : map id_of v.objects ≡ map id_of r.objects
  pub last : v.last_object ≡ r.last_object

pub unmoved : (r : Record) → IsMoved r r
unmoved r = record { frames = same_frames r.frames; ids = refl; last = refl }

pub moved_after : (r v u : Record) → IsMoved r v → IsMoved v u → IsMoved r u
moved_after r v u p q = record {
  frames = same_frames_after r.frames v.frames u.frames p.frames q.frames;
  ids = q.ids ∙ p.ids;
  last = q.last ∙ p.last;
}

pub moved_settled : (r v : Record) → IsMoved r v → IsMoved r (settle v)
moved_settled r v h = record {
  frames = same_frames_after r.frames v.frames (settle v).frames h.frames
      (settled_same 1 v.objects v.frames);
  ids = h.ids;
  last = h.last;
}

-- a frame's grant, which neither names nor saves tell
grant_same : (frame : Frame) (ui : Ui) → IsSameFrame frame (record frame { ui = ui })
grant_same frame ui = record {
  name = refl;
  asked = λ name h. h;
  stored = refl;
  below = λ n h. record { last = h.last; under = h.under };
}

pub frame_moved : (r : Record) (f : ℕ) (frame : Frame) (e : Event) → nth r.frames f ≡ Some frame
    → IsMoved r (with_frame r f (moved frame e))
frame_moved r f frame e at =
    record {
      frames = set_same r.frames f frame (moved frame e) at (grant_same frame (after frame.ui e));
      ids = refl;
      last = refl;
    }

-- an object that takes another's place, in a record that moved
put_ids : (n : ℕ) (a : Object) (os : List Object) → map id_of (put (is_object n) a os)
    ≡ put (λ (i : Id). i.number == n) (id_of a) (map id_of os)
put_ids n a [] = refl
put_ids n a (o ∷ os) = elim (o.number == n) as (λ b. map id_of (if b then a ∷ os else o ∷ put (is_object n) a os)
    ≡ (if b then id_of a ∷ map id_of os else id_of o ∷ put (λ (i : Id). i.number == n) (id_of a) (map id_of os))) [
      | true ↦ refl
      | false ↦ ap (λ v. id_of o ∷ v) (put_ids n a os)
    ]

-- the object of a number, with another link
pub ids_linked : (r : Record) (n : ℕ) (x y : Object) → find (is_object n) r.objects ≡ Some x → id_of y ≡ id_of x
    → map id_of (put (is_object x.number) y r.objects) ≡ map id_of r.objects
ids_linked r n x y e h = (let p : x.number ≡ n = eqb-true x.number n (find_passes (is_object n) r.objects x e) in
    map_put id_of (is_object x.number) y x r.objects (ap (λ m. find (is_object m) r.objects) p ∙ e) h)

pub object_moved : (r v : Record) (n : ℕ) (x y : Object) → IsMoved r v → find (is_object n) r.objects ≡ Some x
    → id_of y ≡ id_of x → IsMoved r (with_object v y)
object_moved r v n x y h f e =
    let number : y.number ≡ x.number = ap (λ (i : Id). i.number) e in
    record {
      frames = h.frames;
      ids = put_ids y.number y v.objects ∙ (ap (put (λ (i : Id). i.number == y.number) (id_of y)) h.ids
          ∙ (sym (put_ids y.number y r.objects) ∙ (ap (λ k. map id_of (put (is_object k) y r.objects)) number
          ∙ ids_linked r n x y f e)));
      last = h.last;
    }

-- requests of objects
requested_moved : (r : Record) (n : ℕ) (op : Operation) (x : Option Object) → find (is_object n) r.objects ≡ x
    → IsMoved r (requested r op x).rec
requested_moved r n op None f = unmoved r
requested_moved r n op (Some o) f = object_moved r r n o (record o { link = asked_link op o.link }) (unmoved r) f refl

pub request_moved : (r : Record) (n : ℕ) (op : Operation) → IsMoved r (request r n op).rec
request_moved r n op = requested_moved r n op (find (is_object n) r.objects) refl

pub grants_moved : (claims : List Claim) (r : Record) → IsMoved r (grant_each r claims).rec
grants_moved [] r = unmoved r
grants_moved (c ∷ cs) r = (let v = (request r c.object (UiActivate c.g)).rec in
    moved_after r v (grant_each v cs).rec (request_moved r c.object (UiActivate c.g)) (grants_moved cs v))

-- what is told of a frame's grant
event_moved : (r : Record) (f : ℕ) (frame : Frame) (e : Option Event) → nth r.frames f ≡ Some frame
    → IsMoved r (regranted_by r f frame e).rec
event_moved r f frame None at = unmoved r
event_moved r f frame (Some e) at =
    let v = with_frame r f (moved frame e) in
    let claims = passed_to frame.ui.state (after frame.ui e).state in
    moved_after r v (grant_each v claims).rec (frame_moved r f frame e at) (grants_moved claims v)

told_moved : (r : Record) (f : ℕ) (told : Tells) (frame : Option Frame) → nth r.frames f ≡ frame
    → IsMoved r (regranted_in r f told frame).rec
told_moved r f told None at = unmoved r
told_moved r f told (Some frame) at = event_moved r f frame (event_of frame.ui.state told) at

pub regranted_moved : (r : Record) (f : ℕ) (told : Option Tells) → IsMoved r (regranted r f told).rec
regranted_moved r f None = unmoved r
regranted_moved r f (Some told) = told_moved r f told (nth r.frames f) refl

-- an object that is asked keeps its number and frame
pub id_asked : (f : ℕ) (op : Operation) (o : Object) → id_of (asked_object f op o) ≡ id_of o
id_asked f op o = elim (o.frame == f) as (λ b. id_of (if b then record o { link = asked_link op o.link } else o)
    ≡ id_of o) [ true ↦ refl | false ↦ refl ]

-- saves under another name go on
handed_moved_at : (r : Record) (f : ℕ) (frame : Option Frame) → nth r.frames f ≡ frame
    → IsMoved r (hand_off_at r f frame).rec
handed_moved_at r f None at = unmoved r
handed_moved_at r f (Some frame) at = elim (hands_off f r.objects frame) as (λ b. hands_off f r.objects frame ≡ b
    → IsMoved r (if b then handed_off r f frame else not_handed r).rec) [
      | true ↦ (λ t. record {
        frames = set_same r.frames f frame (handing_frame frame) at (handing_same f r.objects frame t);
        ids = map_map_same id_of (asked_object f HandsOff) r.objects (id_asked f HandsOff);
        last = refl;
      })
      | false ↦ (λ t. unmoved r)
    ] refl

pub handed_moved : (r : Record) (f : ℕ) → IsMoved r (hand_off_in r f).rec
handed_moved r f = handed_moved_at r f (nth r.frames f) refl

pub handed_moved_if : (b : Bool) (r : Record) (f : ℕ) → IsMoved r (if b then hand_off_in r f else not_handed r).rec
handed_moved_if true r f = handed_moved r f
handed_moved_if false r f = unmoved r

handed_moved_each : (f : ℕ) (frames : List Frame) (r : Record) → IsMoved r (hand_off_each f frames r).rec
handed_moved_each f [] r = unmoved r
handed_moved_each f (frame ∷ frames) r =
    (let v = (hand_off_in r f).rec in moved_after r v (hand_off_each (f + 1) frames v).rec (handed_moved r f)
    (handed_moved_each (f + 1) frames v))

pub all_handed_moved : (r : Record) → IsMoved r (hand_off r).rec
all_handed_moved r = handed_moved_each 1 r.frames r

-- the end of a server frees frames
mapped_at : (g : Frame → Frame) (xs : List Frame) (i : ℕ) (new : Frame) → slice_get (map g xs) i ≡ Some new
    → (old : Frame) × (slice_get xs i ≡ Some old) × (g old ≡ new)
mapped_at g [] i new e = cc
mapped_at g (x ∷ xs) zero new e = (let is : g x ≡ new = cc in (x, refl, is))
mapped_at g (x ∷ xs) (suc i) new e = mapped_at g xs i new e

mapped_nth : (g : Frame → Frame) (xs : List Frame) (f : ℕ) (new : Frame) → nth (map g xs) f ≡ Some new
    → (old : Frame) × (nth xs f ≡ Some old) × (g old ≡ new)
mapped_nth g xs zero new e = cc
mapped_nth g xs (suc i) new e = mapped_at g xs i new e

length_mapped : (g : Frame → Frame) (xs : List Frame) → length (map g xs) ≡ length xs
length_mapped g [] = refl
length_mapped g (x ∷ xs) = ap suc (length_mapped g xs)

freed_same : (inc : ℕ) (os : List Object) (frames : List Frame) → AreSameFrames frames (map (freed_frame inc os) frames)
freed_same inc os frames = record {
  many = length_mapped (freed_frame inc os) frames;
  from = λ f frame e. (let m = mapped_nth (freed_frame inc os) frames f frame e in
      (m.0, m.1, subst (IsSameFrame m.0) m.2 (grant_same m.0 (freed_frame inc os m.0).ui)));
}

pub freed_moved : (inc : ℕ) (os : List Object) (r : Record) → IsMoved r (free_grants inc os r).rec
freed_moved inc os r =
    let v = record r { frames = map (freed_frame inc os) r.frames } in
    let claims = freed_claims inc os r.frames in
    moved_after r v (grant_each v claims).rec
    (record { frames = freed_same inc os r.frames; ids = refl; last = refl }) (grants_moved claims v)
