-- What hand-off makes of an object that was told of a grant, or wasn't.
use Rattle.std.proofs.Common.{◌≡◌, inl, inr, ℕ, zero, suc, List, [], ◌∷◌, map, Option, Some, None, refl, sym, ap, ◌∙◌}
use Rattle.std.specs.Prelude.{is_some, slice_get}
use Rattle.message_values.specs.Found.{nth, set_nth}
use Rattle.object_state.specs.Frames.{after}
use Rattle.object_state.specs.Grants.{Event}
use Rattle.container_model.specs.declared.grants.Tells.{Tells}
use Rattle.container_model.specs.declared.record.Frame.{Frame}
use Rattle.container_model.specs.declared.record.Object.{Object}
use Rattle.container_model.specs.Grants.{event_of, freed_frame, moved, passed_to, regranted, regranted_by, regranted_in}
use Rattle.container_model.specs.Record.{Record}
use Rattle.container_laws.specs.Laws.{StaysOrIsAsked, StaysOrIsGranted}
use Rattle.container_laws.proofs.FreedLaws.{granted_frames}
use Rattle.container_steady.proofs.SteadyClaims.{set_back}
use Rattle.container_steps.proofs.HandedOff.{StaysOrHanded}

-- a frame whose grant moved is saved as before
abbrev pub SameSave : List Frame → ℕ → Frame → Type 0
SameSave frames g y = (x : Frame) × (nth frames g ≡ Some x) × (y.phase ≡ x.phase) × (y.asked ≡ x.asked)

by_same : (v : Record) (f : ℕ) (frame : Frame) (event : Option Event) (g : ℕ) (y : Frame)
    → nth v.frames f ≡ Some frame → nth (regranted_by v f frame event).rec.frames g ≡ Some y → SameSave v.frames g y
by_same v f frame None g y at e = (y, e, refl, refl)
by_same v f frame (Some event) g y at e =
    let w : Record = record v { frames = set_nth v.frames f (moved frame event) } in
    let here = ap (λ (fs : List Frame). nth fs g)
    (sym (granted_frames (passed_to frame.ui.state (after frame.ui event).state) w)) ∙ e in
    elim (set_back v.frames f g frame (moved frame event) y at here) [
      | inl same ↦ (
        frame,
        ap (nth v.frames) (sym same.0) ∙ at,
        ap (λ (z : Frame). z.phase) (sym same.1),
        ap (λ (z : Frame). z.asked) (sym same.1),
      )
      | inr other ↦ (y, other, refl, refl)
    ]

in_same : (v : Record) (f : ℕ) (told : Tells) (frame : Option Frame) (g : ℕ) (y : Frame) → nth v.frames f ≡ frame
    → nth (regranted_in v f told frame).rec.frames g ≡ Some y → SameSave v.frames g y
in_same v f told None g y at e = (y, e, refl, refl)
in_same v f told (Some frame) g y at e = by_same v f frame (event_of frame.ui.state told) g y at e

pub regranted_same : (v : Record) (f : ℕ) (told : Option Tells) (g : ℕ) (y : Frame)
    → nth (regranted v f told).rec.frames g ≡ Some y → SameSave v.frames g y
regranted_same v f None g y e = (y, e, refl, refl)
regranted_same v f (Some told) g y e = in_same v f told (nth v.frames f) g y refl e

-- one that is freed, too
get_freed : (inc : ℕ) (os : List Object) (xs : List Frame) (i : ℕ) (y : Frame)
    → slice_get (map (freed_frame inc os) xs) i ≡ Some y → (x : Frame) × (slice_get xs i ≡ Some x)
    × (freed_frame inc os x ≡ y)
get_freed inc os [] i y e = cc
get_freed inc os (x ∷ xs) zero y e = (x, refl, (let same : freed_frame inc os x ≡ y = cc in same))
get_freed inc os (x ∷ xs) (suc i) y e = get_freed inc os xs i y e

pub freed_same : (inc : ℕ) (os : List Object) (xs : List Frame) (g : ℕ) (y : Frame)
    → nth (map (freed_frame inc os) xs) g ≡ Some y → SameSave xs g y
freed_same inc os xs zero y e = cc
freed_same inc os xs (suc i) y e = (let x = get_freed inc os xs i y e in
    (x.0, x.1, ap (λ (z : Frame). z.phase) (sym x.2), ap (λ (z : Frame). z.asked) (sym x.2)))

-- an object that is asked for its storage then
granted_place : (r : Record) (o told : Object) → StaysOrIsGranted r o told → told.frame ≡ o.frame
granted_place r o told (inl e) = ap (λ (z : Object). z.frame) e
granted_place r o told (inr g) = ap (λ (z : Object). z.frame) g.told

pub to_asked : (r : Record) (frames : List Frame) (o told later : Object)
    → ((g : ℕ) (y : Frame) → nth frames g ≡ Some y → SameSave r.frames g y) → StaysOrIsGranted r o told
    → StaysOrHanded frames told later → StaysOrIsAsked r o later
to_asked r frames o told later same granted (inl e) = (told, granted, inl e)
to_asked r frames o told later same granted (inr h) =
    let x = same told.frame h.frame h.inside in (
      told,
      granted,
      inr (record {
        frame = x.0;
        inside = ap (nth r.frames) (sym (granted_place r o told granted)) ∙ x.1;
        saving = sym x.2 ∙ h.saving;
        named = ap is_some (sym x.3) ∙ h.named;
        asked = h.asked;
      }),
    )
