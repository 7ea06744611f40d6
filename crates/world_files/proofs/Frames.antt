-- Frames after steps that aren't commits.
use Rattle.std.proofs.Common.{◌≡◌, ◌≢◌, ℕ, zero, suc, ◌+◌, ◌≤◌, Bool, true, false, List, [], ◌∷◌, length, Option, Some}
use Rattle.std.proofs.Common.{None, refl, sym, ap, ◌∙◌, inl, inr, arith, subst, slice_get, if◌then◌else◌}
use Rattle.message_values.specs.Found.{nth, set_nth}
use Rattle.container_model.specs.HandOffs.{handing_frame, hands_off, hands_off_at}
use Rattle.container_model.specs.Saves.{awaits, keeps, doubted_frame, dropped_frame, is_ready, is_ready_at}
use Rattle.container_model.specs.Saves.{settled_frame, settled_frames}
use Rattle.container_model.specs.Commands.{saving_frame}
use Rattle.container_model.specs.declared.record.Frame.{Frame}
use Rattle.container_model.specs.declared.record.Object.{Object}
use Rattle.container_model.specs.declared.record.Phase.{Phase}
use Rattle.container_model.specs.declared.record.Phase.TheVariants.{Idle, Saving, HandingOff, Committing, InDoubt}
use Rattle.world_files.specs.Files.{IsSameFrame, AreSameFrames}
use Rattle.container_queues.proofs.SteadyLookups.{nth-set_same, nth-set_other}
use Rattle.world_facts.proofs.Lookups.{length_set_nth, nth_set, nth_set_apart}

pub same_frame : (frame : Frame) → IsSameFrame frame frame
same_frame frame = record { name = refl; asked = λ name h. h; stored = refl; below = λ n h. h }

pub same_frames : (frames : List Frame) → AreSameFrames frames frames
same_frames frames = record { many = refl; from = λ f frame e. (frame, e, same_frame frame) }

pub same_after : (a b c : Frame) → IsSameFrame a b → IsSameFrame b c → IsSameFrame a c
same_after a b c p q = record {
  name = q.name ∙ p.name;
  asked = λ name h. p.asked name (q.asked name h);
  stored = q.stored ∙ p.stored;
  below = λ n h. q.below n (p.below n h);
}

pub same_frames_after : (xs ys zs : List Frame) → AreSameFrames xs ys → AreSameFrames ys zs → AreSameFrames xs zs
same_frames_after xs ys zs p q = record {
  many = q.many ∙ p.many;
  from = λ f frame e. (let b = q.from f frame e in let a = p.from f b.0 b.1 in
      (a.0, a.1, same_after a.0 b.0 frame a.2 b.2));
}

-- a frame that is ready was saving
ready_saving : (phase : Phase) (asked : Option (List ℕ)) (w k : Bool) → is_ready_at phase asked w k ≡ true
    → phase ≢ Idle
ready_saving Idle asked w k e = cc
ready_saving Saving None w k e = λ h. cc
ready_saving Saving (Some name) w k e = cc
ready_saving HandingOff asked w k e = λ h. cc
ready_saving Committing asked w k e = cc
ready_saving InDoubt asked w k e = cc

pub same_settled : (f : ℕ) (os : List Object) (frame : Frame) → IsSameFrame frame (settled_frame f os frame)
same_settled f os frame =
    elim (is_ready f os frame) as (λ b. is_ready f os frame ≡ b
    → IsSameFrame frame (if b then record frame { phase = Committing } else frame)) [
      | true ↦ (λ t. record {
        name = refl;
        asked = λ name h. h;
        stored = refl;
        below = λ n h. record {
          last = h.last;
          under = λ ne. h.under (ready_saving frame.phase frame.asked (awaits f os) (keeps f os) t);
        };
      })
      | false ↦ (λ t. same_frame frame)
    ] refl

settled_at : (n : ℕ) (os : List Object) (frames : List Frame) (i : ℕ) (new : Frame)
    → slice_get (settled_frames n os frames) i ≡ Some new → (old : Frame) × (slice_get frames i ≡ Some old)
    × IsSameFrame old new
settled_at n os [] i new e = cc
settled_at n os (frame ∷ frames) zero new e = (let at : settled_frame n os frame ≡ new = cc in
    (frame, refl, subst (IsSameFrame frame) at (same_settled n os frame)))
settled_at n os (frame ∷ frames) (suc i) new e = settled_at (n + 1) os frames i new e

settled_nth : (n : ℕ) (os : List Object) (frames : List Frame) (f : ℕ) (new : Frame)
    → nth (settled_frames n os frames) f ≡ Some new → (old : Frame) × (nth frames f ≡ Some old)
    × IsSameFrame old new
settled_nth n os frames zero new e = cc
settled_nth n os frames (suc i) new e = settled_at n os frames i new e

length_settled : (n : ℕ) (os : List Object) (frames : List Frame) → length (settled_frames n os frames) ≡ length frames
length_settled n os [] = refl
length_settled n os (frame ∷ frames) = ap suc (length_settled (n + 1) os frames)

pub settled_same : (n : ℕ) (os : List Object) (frames : List Frame) → AreSameFrames frames (settled_frames n os frames)
settled_same n os frames = record { many = length_settled n os frames; from = settled_nth n os frames }

-- a frame that begins to save, asking for the name that it had asked for, or for none
pub saving_same : (frame : Frame) (raised : Option ℕ) (asked : Option (List ℕ))
    → ((name : List ℕ) → asked ≡ Some name → frame.asked ≡ Some name)
    → IsSameFrame frame (saving_frame raised asked frame)
saving_same frame raised asked h = record {
  name = refl;
  asked = h;
  stored = refl;
  below = λ n h. (let l : n ≤ frame.k = h.last in record { last = omega arith; under = λ ne. omega arith });
}

-- a frame that hands off was saving
handing_saving : (phase : Phase) (asked : Option (List ℕ)) (w : Bool) → hands_off_at phase asked w ≡ true → phase ≢ Idle
handing_saving Idle asked w e = cc
handing_saving Saving asked w e = λ h. cc
handing_saving HandingOff asked w e = cc
handing_saving Committing asked w e = cc
handing_saving InDoubt asked w e = cc

pub handing_same : (f : ℕ) (os : List Object) (frame : Frame) → hands_off f os frame ≡ true
    → IsSameFrame frame (handing_frame frame)
handing_same f os frame t = record {
  name = refl;
  asked = λ name h. h;
  stored = refl;
  below = λ n h. record {
    last = h.last;
    under = λ ne. h.under (handing_saving frame.phase frame.asked (awaits f os) t);
  };
}

-- a frame whose commit failed, and one in doubt whose save is dropped
pub doubted_same : (frame : Frame) → frame.phase ≢ Idle → IsSameFrame frame (doubted_frame frame)
doubted_same frame busy = record {
  name = refl;
  asked = λ name h. h;
  stored = refl;
  below = λ n h. record { last = h.last; under = λ ne. h.under busy };
}

pub dropped_same : (frame : Frame) → IsSameFrame frame (dropped_frame frame)
dropped_same frame = record {
  name = refl;
  asked = λ name h. cc;
  stored = refl;
  below = λ n h. record { last = h.last; under = λ ne. absurd (ne refl) };
}

-- one frame that had changed already
pub again_same : (frames : List Frame) (f : ℕ) (old mid new : Frame) → nth frames f ≡ Some old → IsSameFrame mid new
    → AreSameFrames (set_nth frames f mid) (set_nth frames f new)
again_same frames f old mid new at s = record {
  many = length_set_nth frames f new ∙ sym (length_set_nth frames f mid);
  from = λ g frame e. elim (nth_set_apart frames f g new frame e) [
    | inl h ↦ (
      mid,
      ap (nth (set_nth frames f mid)) h.0 ∙ nth-set_same frames f old mid at,
      subst (IsSameFrame mid)
          (sym h.1) s,
    )
    | inr h ↦ (frame, nth-set_other frames f g mid (λ q. h.0 (sym q)) ∙ h.1, same_frame frame)
  ];
}

-- one frame changed
pub set_same : (frames : List Frame) (f : ℕ) (old new : Frame) → nth frames f ≡ Some old → IsSameFrame old new
    → AreSameFrames frames (set_nth frames f new)
set_same frames f old new at s = record {
  many = length_set_nth frames f new;
  from = λ g frame e. elim (nth_set frames f g new frame e) [
    | inl h ↦ (old, ap (nth frames) h.0 ∙ at, subst (IsSameFrame old) (sym h.1) s)
    | inr h ↦ (frame, h, same_frame frame)
  ];
}
