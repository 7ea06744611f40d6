-- Commits that are done, that fail and that are resolved, as they are taken: their frame, and what is made of it.
use Rattle.std.proofs.Common.{◌≡◌, ◌≢◌, ℕ, Bool, true, false, Option, Some, None, Result, Ok, Err, refl, sym, ap, ◌∙◌}
use Rattle.std.proofs.Common.{inl, inr, if◌then◌else◌}
use Rattle.message_values.specs.Found.{nth}
use Rattle.container_model.specs.Record.{Record, Took, is_doubtful}
use Rattle.container_model.specs.Saves.{image, commit_done, commit_at, commit_doubted, commit_failed, commit_fitting}
use Rattle.container_model.specs.Saves.{commit_made, failed_at, is_committing, resolve, resolved_at, save_dropped}
use Rattle.container_model.specs.declared.answer.FrameDocument.{FrameDocument}
use Rattle.container_model.specs.declared.record.Frame.{Frame}
use Rattle.container_model.specs.declared.record.Phase.{Phase}
use Rattle.container_model.specs.declared.record.Phase.TheVariants.{Idle, Saving, HandingOff, Committing, InDoubt}
use Rattle.container_model.specs.declared.fault.ContainerFault.{ContainerFault}
use Rattle.container_model.specs.declared.fault.ContainerFault.TheVariants.{WrongState}
use Rattle.container_queues.specs.Steady.{IsUnsettled}

fitting_commit : (r : Record) (f : ℕ) (frame : Frame) (told : Result FrameDocument ContainerFault) (t : Took)
    → commit_fitting r f frame told ≡ Ok t → commit_made r f frame ≡ t
fitting_commit r f frame (Err fault) t e = cc
fitting_commit r f frame (Ok parts) t e = cc

-- what is made of a frame is its commit, where its commit was asked or is in doubt
abbrev pub IsCommitOf : Record → ℕ → Frame → Result Took ContainerFault → Type 0
IsCommitOf r f frame told = (t : Took) → told ≡ Ok t → IsUnsettled frame.phase × (commit_made r f frame ≡ t)

pub not_idle : (phase : Phase) → IsUnsettled phase → phase ≢ Idle
not_idle phase (inl e) = λ h. (let g : Committing ≡ Idle = sym e ∙ h in cc)
not_idle phase (inr e) = λ h. (let g : InDoubt ≡ Idle = sym e ∙ h in cc)

pub committing_by : (phase : Phase) → is_committing phase ≡ true → phase ≡ Committing
committing_by Idle e = cc
committing_by Saving e = cc
committing_by HandingOff e = cc
committing_by Committing e = refl
committing_by InDoubt e = cc

pub doubtful_by : (phase : Phase) → is_doubtful phase ≡ true → phase ≡ InDoubt
doubtful_by Idle e = cc
doubtful_by Saving e = cc
doubtful_by HandingOff e = cc
doubtful_by Committing e = cc
doubtful_by InDoubt e = refl

if_taken : (b : Bool) (next : Result Took ContainerFault) (t : Took) → (if b then next else Err WrongState) ≡ Ok t
    → (b ≡ true) × (next ≡ Ok t)
if_taken true next t e = (refl, e)
if_taken false next t e = cc

ok_took : (x y : Took) → ◌≡◌ {A = Result Took ContainerFault} (Ok x) (Ok y) → x ≡ y
ok_took x y e = cc

-- a commit that is done, and one in doubt that is resolved as kept
pub done_commits : (r : Record) (f : ℕ) (frame : Frame) → nth r.frames f ≡ Some frame
    → IsCommitOf r f frame (commit_done r f)
done_commits r f frame at t e =
    let a = if_taken (is_committing frame.phase) (commit_fitting r f frame (image r f)) t
    (ap (commit_at r f) (sym at) ∙ e) in
    (inl (committing_by frame.phase a.0), fitting_commit r f frame (image r f) t a.1)

pub kept_commits : (r : Record) (f : ℕ) (frame : Frame) → nth r.frames f ≡ Some frame
    → IsCommitOf r f frame (resolve r f true)
kept_commits r f frame at t e =
    let a = if_taken (is_doubtful frame.phase) (commit_fitting r f frame (image r f)) t
    (ap (resolved_at r f true) (sym at) ∙ e) in
    (inr (doubtful_by frame.phase a.0), fitting_commit r f frame (image r f) t a.1)

-- a commit that failed, and one in doubt that is resolved as lost: the frame, and what was made
pub record IsFailed (r : Record) (f : ℕ) (t : Took) : Type 0 where
  pub frame : Frame
  pub there : nth r.frames f ≡ Some frame
  pub phase : frame.phase ≡ Committing
  pub made : commit_doubted r f frame ≡ t

pub record IsDropped (r : Record) (f : ℕ) (t : Took) : Type 0 where
  pub frame : Frame
  pub there : nth r.frames f ≡ Some frame
  pub phase : frame.phase ≡ InDoubt
  pub made : save_dropped r f frame ≡ t

failed_in : (r : Record) (f : ℕ) (frame : Option Frame) (t : Took) → nth r.frames f ≡ frame
    → failed_at r f frame ≡ Ok t → IsFailed r f t
failed_in r f None t at e = cc
failed_in r f (Some frame) t at e = (let a = if_taken (is_committing frame.phase) (Ok (commit_doubted r f frame)) t e in
    record {
      frame = frame;
      there = at;
      phase = committing_by frame.phase a.0;
      made = ok_took (commit_doubted r f frame) t a.1;
    })

pub is_failed : (r : Record) (f : ℕ) (t : Took) → commit_failed r f ≡ Ok t → IsFailed r f t
is_failed r f t e = failed_in r f (nth r.frames f) t refl e

dropped_in : (r : Record) (f : ℕ) (frame : Option Frame) (t : Took) → nth r.frames f ≡ frame
    → resolved_at r f false frame ≡ Ok t → IsDropped r f t
dropped_in r f None t at e = cc
dropped_in r f (Some frame) t at e = (let a = if_taken (is_doubtful frame.phase) (Ok (save_dropped r f frame)) t e in
    record {
      frame = frame;
      there = at;
      phase = doubtful_by frame.phase a.0;
      made = ok_took (save_dropped r f frame) t a.1;
    })

pub is_dropped : (r : Record) (f : ℕ) (t : Took) → resolve r f false ≡ Ok t → IsDropped r f t
is_dropped r f t e = dropped_in r f (nth r.frames f) t refl e
