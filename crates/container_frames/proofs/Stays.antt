-- Frames that keep their names and their documents' sessions, whatever becomes of their grants and saves.
use Rattle.std.proofs.Common.{◌≡◌, ◌≢◌, ◌⊎◌, ◌+◌, ℕ, zero, suc, Bool, true, List, [], ◌∷◌, length, map, Option, Some}
use Rattle.std.proofs.Common.{None, slice_get, refl, sym, ◌∙◌, ap, inl, inr, subst}
use Rattle.std.proofs.lemmas.List.{length-map, length-set}
use Rattle.std.specs.Prelude.{slice_set}
use Rattle.message_values.specs.Found.{nth, set_nth}
use Rattle.object_state.specs.Frames.{Ui}
use Rattle.container_model.specs.declared.record.Frame.{Frame}
use Rattle.container_model.specs.declared.record.Object.{Object}
use Rattle.container_model.specs.declared.record.Phase.{Phase}
use Rattle.container_model.specs.declared.record.Phase.TheVariants.{Idle, Saving, HandingOff, Committing, InDoubt}
use Rattle.container_model.specs.Commands.{saving_frame}
use Rattle.container_model.specs.Grants.{freed, freed_frame}
use Rattle.container_model.specs.HandOffs.{handing_frame, hands_off, hands_off_at}
use Rattle.container_model.specs.Saves.{awaits, doubted_frame, dropped_frame, is_ready, is_ready_at, keeps}
use Rattle.container_model.specs.Saves.{settled_frame, settled_frames}
use Rattle.container_steady.proofs.SteadyTells.{if_told}
use Rattle.container_frames.specs.Frames.{FrameStays, FramesStay}

-- ---- one frame
pub frame_same : (s : ℕ) (frame : Frame) → FrameStays s frame frame
frame_same s frame = record { name = refl; session_same = refl; unraised = λ h. h }

frame_after : (s : ℕ) (a b c : Frame) → FrameStays s a b → FrameStays s b c → FrameStays s a c
frame_after s a b c p q = record {
  name = q.name ∙ p.name;
  session_same = q.session_same ∙ p.session_same;
  unraised = λ h. q.unraised (p.unraised h);
}

-- its grant tells nothing of its save
pub grant_stays : (s : ℕ) (frame : Frame) (ui : Ui) → FrameStays s frame (record frame { ui = ui })
grant_stays s frame ui = record { name = refl; session_same = refl; unraised = λ h. h }

-- where there is no session, its save begins only to raise one
pub saving_stays : (s : ℕ) (frame : Frame) (raised : Option ℕ) (asked : Option (List ℕ)) → (s ≡ 0 → raised ≢ None)
    → FrameStays s frame (saving_frame raised asked frame)
saving_stays s frame raised asked k = record {
  name = refl;
  session_same = refl;
  unraised = λ h none unset. absurd (k none unset);
}

-- one that is ready was saving, and so was one that hands off
ready_saving : (phase : Phase) (asked : Option (List ℕ)) (waits keeping : Bool)
    → is_ready_at phase asked waits keeping ≡ true → phase ≢ Idle
ready_saving Idle asked waits keeping e = cc
ready_saving Saving None waits keeping e = λ h. cc
ready_saving Saving (Some name) waits keeping e = cc
ready_saving HandingOff asked waits keeping e = λ h. cc
ready_saving Committing asked waits keeping e = cc
ready_saving InDoubt asked waits keeping e = cc

handing_saving : (phase : Phase) (asked : Option (List ℕ)) (waits : Bool) → hands_off_at phase asked waits ≡ true
    → phase ≢ Idle
handing_saving Idle asked waits e = cc
handing_saving Saving asked waits e = λ h. cc
handing_saving HandingOff asked waits e = cc
handing_saving Committing asked waits e = cc
handing_saving InDoubt asked waits e = cc

settled_stays : (s f : ℕ) (os : List Object) (frame : Frame) → FrameStays s frame (settled_frame f os frame)
settled_stays s f os frame = if_told (FrameStays s frame) (is_ready f os frame)
    (record frame { phase = Committing }) frame
    (λ t. record {
      name = refl;
      session_same = refl;
      unraised =
          λ h none unset. absurd (ready_saving frame.phase frame.asked (awaits f os) (keeps f os) t (h none unset));
    })
    (λ t. frame_same s frame)

pub handing_stays : (s f : ℕ) (os : List Object) (frame : Frame) → hands_off f os frame ≡ true
    → FrameStays s frame (handing_frame frame)
handing_stays s f os frame t = record {
  name = refl;
  session_same = refl;
  unraised = λ h none unset. absurd (handing_saving frame.phase frame.asked (awaits f os) t (h none unset));
}

-- a commit that failed, and a save that is dropped
pub doubted_stays : (s : ℕ) (frame : Frame) → frame.phase ≢ Idle → FrameStays s frame (doubted_frame frame)
doubted_stays s frame busy = record {
  name = refl;
  session_same = refl;
  unraised = λ h none unset. absurd (busy (h none unset));
}

pub dropped_stays : (s : ℕ) (frame : Frame) → FrameStays s frame (dropped_frame frame)
dropped_stays s frame = record { name = refl; session_same = refl; unraised = λ h none unset. refl }

-- ---- all frames
pub frames_same : (s : ℕ) (frames : List Frame) → FramesStay s frames frames
frames_same s frames = record { many = refl; from = λ f frame e. (frame, e, frame_same s frame) }

pub frames_after : (s : ℕ) (xs ys zs : List Frame) → FramesStay s xs ys → FramesStay s ys zs → FramesStay s xs zs
frames_after s xs ys zs p q = record {
  many = q.many ∙ p.many;
  from = λ f frame e. (let b = q.from f frame e in let a = p.from f b.0 b.1 in
      (a.0, a.1, frame_after s a.0 b.0 frame a.2 b.2));
}

-- one of them changed
get_set : (xs : List Frame) (i j : ℕ) (a x : Frame) → slice_get (slice_set xs i a) j ≡ Some x → ((j ≡ i) × (x ≡ a))
    ⊎ (slice_get xs j ≡ Some x)
get_set [] i j a x e = cc
get_set (z ∷ zs) zero zero a x e = inl (refl, cc)
get_set (z ∷ zs) zero (suc j) a x e = inr e
get_set (z ∷ zs) (suc i) zero a x e = inr e
get_set (z ∷ zs) (suc i) (suc j) a x e = elim (get_set zs i j a x e) [ inl g ↦ inl (ap suc g.0, g.1) | inr g ↦ inr g ]

nth_set : (xs : List Frame) (n m : ℕ) (a x : Frame) → nth (set_nth xs n a) m ≡ Some x → ((m ≡ n) × (x ≡ a))
    ⊎ (nth xs m ≡ Some x)
nth_set xs n zero a x e = cc
nth_set xs zero (suc j) a x e = inr e
nth_set xs (suc i) (suc j) a x e = elim (get_set xs i j a x e) [ inl g ↦ inl (ap suc g.0, g.1) | inr g ↦ inr g ]

length-set_nth : (xs : List Frame) (n : ℕ) (x : Frame) → length (set_nth xs n x) ≡ length xs
length-set_nth xs zero x = refl
length-set_nth xs (suc i) x = length-set xs i x

pub frames_set : (s : ℕ) (frames : List Frame) (f : ℕ) (old new : Frame) → nth frames f ≡ Some old
    → FrameStays s old new → FramesStay s frames (set_nth frames f new)
frames_set s frames f old new at h = record {
  many = length-set_nth frames f new;
  from = λ g frame e. elim (nth_set frames f g new frame e) [
    | inl k ↦ (old, ap (nth frames) k.0 ∙ at, subst (FrameStays s old) (sym k.1) h)
    | inr k ↦ (frame, k, frame_same s frame)
  ];
}

-- what is new at a number is one that stood there and stays
abbrev StaysFrom : ℕ → Option Frame → Frame → Type 0
StaysFrom s found new = (old : Frame) × (found ≡ Some old) × FrameStays s old new

-- saves went on
settled_at : (s n : ℕ) (os : List Object) (frames : List Frame) (i : ℕ) (new : Frame)
    → slice_get (settled_frames n os frames) i ≡ Some new → StaysFrom s (slice_get frames i) new
settled_at s n os [] i new e = cc
settled_at s n os (frame ∷ frames) zero new e =
    (let at : settled_frame n os frame ≡ new = cc in
    (frame, refl, subst (FrameStays s frame) at (settled_stays s n os frame)))
settled_at s n os (frame ∷ frames) (suc i) new e = settled_at s (n + 1) os frames i new e

settled_nth : (s n : ℕ) (os : List Object) (frames : List Frame) (f : ℕ) (new : Frame)
    → nth (settled_frames n os frames) f ≡ Some new → StaysFrom s (nth frames f) new
settled_nth s n os frames zero new e = cc
settled_nth s n os frames (suc i) new e = settled_at s n os frames i new e

length_settled : (n : ℕ) (os : List Object) (frames : List Frame) → length (settled_frames n os frames) ≡ length frames
length_settled n os [] = refl
length_settled n os (frame ∷ frames) = ap suc (length_settled (n + 1) os frames)

pub frames_settled : (s n : ℕ) (os : List Object) (frames : List Frame)
    → FramesStay s frames (settled_frames n os frames)
frames_settled s n os frames = record { many = length_settled n os frames; from = settled_nth s n os frames }

-- the end of a server freed some
freed_at : (s inc : ℕ) (os : List Object) (frames : List Frame) (i : ℕ) (new : Frame)
    → slice_get (map (freed_frame inc os) frames) i ≡ Some new → StaysFrom s (slice_get frames i) new
freed_at s inc os [] i new e = cc
freed_at s inc os (frame ∷ frames) zero new e =
    (let at : freed_frame inc os frame ≡ new = cc in
    (frame, refl, subst (FrameStays s frame) at (grant_stays s frame (freed inc os frame.ui))))
freed_at s inc os (frame ∷ frames) (suc i) new e = freed_at s inc os frames i new e

freed_nth : (s inc : ℕ) (os : List Object) (frames : List Frame) (f : ℕ) (new : Frame)
    → nth (map (freed_frame inc os) frames) f ≡ Some new → StaysFrom s (nth frames f) new
freed_nth s inc os frames zero new e = cc
freed_nth s inc os frames (suc i) new e = freed_at s inc os frames i new e

pub frames_freed : (s inc : ℕ) (os : List Object) (frames : List Frame)
    → FramesStay s frames (map (freed_frame inc os) frames)
frames_freed s inc os frames = record {
  many = length-map frames (freed_frame inc os);
  from = freed_nth s inc os frames;
}
