-- Which commits are done, once the container was told what became of them.
use Rattle.std.proofs.Common.{◌≡◌, ◌≢◌, ◌==◌, ◌<◌, ◌+◌, length, take, get_or, inl, inr, ◌⊎◌, ⊎_elim, ℕ, Bool, true}
use Rattle.std.proofs.Common.{false, List, Option, Some, None, if◌then◌else◌, Result, Ok, Err, IfOk, IfErr, OnOk, OnErr}
use Rattle.std.proofs.Common.{refl, sym, ap, ◌∙◌, subst}
use Rattle.std.proofs.lemmas.Bool.{eqb-true, eqb-false}
use Rattle.std.proofs.lemmas.List.Elements.{All-more}
use Rattle.std.specs.Prelude.{slice_index_or}
use Rattle.message_values.specs.Found.{nth, set_nth}
use Rattle.container_queues.proofs.SteadyLookups.{nth-set_other, nth-set_same}
use Rattle.container_model.specs.Record.{Record, Refuses, Took, counts_none, is_doubtful}
use Rattle.container_model.specs.Saves.{commit_at, commit_done, commit_failed, commit_doubted, commit_fitting}
use Rattle.container_model.specs.Saves.{commit_made, committed_frame, doubted_frame, dropped_frame, failed_at, image}
use Rattle.container_model.specs.Saves.{is_committing, resolve, resolved_as, resolved_at, save_dropped}
use Rattle.container_model.specs.declared.answer.Action.{Action}
use Rattle.container_model.specs.declared.answer.Action.TheVariants as action
use Rattle.container_model.specs.declared.answer.Answer.{Answer}
use Rattle.container_model.specs.declared.answer.Done.{Done}
use Rattle.container_model.specs.declared.answer.FrameDocument.{FrameDocument}
use Rattle.container_model.specs.declared.fault.ContainerFault.{ContainerFault}
use Rattle.container_model.specs.declared.fault.ContainerFault.TheVariants as fault
use Rattle.container_model.specs.declared.record.Frame.{Frame}
use Rattle.container_model.specs.declared.record.Phase.{Phase}
use Rattle.container_model.specs.declared.record.Phase.TheVariants.{Idle, Saving, HandingOff, Committing, InDoubt}
use Rattle.script_model.specs.Saved.{is_unsaved}
use Rattle.script_container.proofs.Answered.{refused_with}
use Rattle.script_container.specs.Done.{AreCarriedOut, IsAnswered, IsCarriedOut, IsCertain, IsDone, OnlyDone}
use Rattle.script_container.specs.Done.{OnlyDoneBut, is_in}

-- ---- frames of which one is put in the place of another

either_set : (frames : List Frame) (f g : ℕ) (a : Frame) → (nth (set_nth frames f a) g ≡ nth frames g) ⊎ (g ≡ f)
either_set frames f g a = elim (f == g) as (λ b. (f == g) ≡ b → (nth (set_nth frames f a) g ≡ nth frames g) ⊎ (g ≡ f)) [
  | true ↦ (λ t. inr (sym (eqb-true f g t)))
  | false ↦ (λ t. inl (nth-set_other frames f g a (eqb-false f g t)))
] refl

but_one : (r now : Record) (f : ℕ) (a : Frame) → now.frames ≡ set_nth r.frames f a → OnlyDoneBut f r now
but_one r now f a changed = λ g. ⊎_elim (λ same. inl (ap (λ (fs : List Frame). nth fs g) changed ∙ same))
    (λ is. inr is) (either_set r.frames f g a)

put_in : (test : Phase → Bool) (r now : Record) (f : ℕ) (x a : Frame) → nth r.frames f ≡ Some x
    → now.frames ≡ set_nth r.frames f a → test a.phase ≡ false → is_in test (nth now.frames f) ≡ false
put_in test r now f x a here changed is = ap (λ (fs : List Frame). is_in test (nth fs f)) changed
    ∙ ap (is_in test) (nth-set_same r.frames f x a here) ∙ is

only_done : (r now : Record) (f : ℕ) → OnlyDoneBut f r now → IsDone now f → OnlyDone r now
only_done r now f but done = λ g. ⊎_elim (λ same. inl same)
    (λ is. inr (subst (λ (n : ℕ). IsDone now n) (sym is) done)) (but g)

-- ---- what becomes of frames

pub same_frames : (r now : Record) → now ≡ r → OnlyDone r now
same_frames r now same = λ g. inl (ap (λ (q : Record). nth q.frames g) same)

pub then_frames : (r mid now : Record) → OnlyDone r mid → OnlyDone mid now → OnlyDone r now
then_frames r mid now first next =
    λ g. ⊎_elim (λ same. ⊎_elim (λ was. inl (same ∙ was)) (λ done. inr (ap (is_in is_unsaved) same ∙ done))
    (first g)) (λ done. inr done) (next g)

-- a commit that is done stays done
pub done_then : (mid now : Record) (f : ℕ) → OnlyDone mid now → IsDone mid f → IsDone now f
done_then mid now f next done = ⊎_elim (λ same. ap (is_in is_unsaved) same ∙ done) (λ is. is) (next f)

-- what isn't in doubt is not in doubt later
pub certain_then : (r mid : Record) (f : ℕ) → OnlyDone r mid → IsCertain r f → IsCertain mid f ⊎ IsDone mid f
certain_then r mid f first certain = ⊎_elim (λ same. inl (ap (is_in is_doubtful) same ∙ certain)) (λ done. inr done)
    (first f)

module _ (r : Record) (f : ℕ) where
  -- ---- a commit that is done

  kept_fit : (frame : Frame) (told : Result FrameDocument ContainerFault) (took : Took)
      → nth r.frames f ≡ Some frame → commit_fitting r f frame told ≡ Ok took → IsDone took.rec f
      × OnlyDoneBut f r took.rec
  kept_fit frame (Err e) took here is = absurd (cc)
  kept_fit frame (Ok d) took here is =
      let made : took ≡ commit_made r f frame = cc in
      let changed : took.rec.frames ≡ set_nth r.frames f (committed_frame frame) =
      ap (λ (t : Took). t.rec.frames) made in (
        put_in is_unsaved r took.rec f frame (committed_frame frame) here changed refl,
        but_one r took.rec f
            (committed_frame frame) changed,
      )

  kept_if : (b : Bool) (frame : Frame) (took : Took) → nth r.frames f ≡ Some frame
      → (if b then commit_fitting r f frame (image r f) else Err fault.WrongState) ≡ Ok took → IsDone took.rec f
      × OnlyDoneBut f r took.rec
  kept_if true frame took here is = kept_fit frame (image r f) took here is
  kept_if false frame took here is = absurd (cc)

  kept_at : (found : Option Frame) (took : Took) → nth r.frames f ≡ found → commit_at r f found ≡ Ok took
      → IsDone took.rec f × OnlyDoneBut f r took.rec
  kept_at None took here is = absurd (cc)
  kept_at (Some frame) took here is = kept_if (is_committing frame.phase) frame took here is

  -- where it is refused, it was done, or in doubt
  kept_phase : (frame : Frame) (p : Phase) (saved : FrameDocument) (e : ContainerFault) → image r f ≡ Ok saved
      → is_doubtful p ≡ false → (if is_committing p then commit_fitting r f frame (image r f)
      else Err fault.WrongState) ≡ Err e → is_unsaved p ≡ false
  kept_phase frame Idle saved e counted certain is = refl
  kept_phase frame Saving saved e counted certain is = refl
  kept_phase frame HandingOff saved e counted certain is = refl
  kept_phase frame Committing saved e counted certain is = let now : commit_fitting r f frame (Ok saved) ≡ Err e =
      ap (commit_fitting r f frame) (sym counted) ∙ is in absurd (cc)
  kept_phase frame InDoubt saved e counted certain is = absurd (cc)

  kept_refused : (found : Option Frame) (saved : FrameDocument) (e : ContainerFault) → image r f ≡ Ok saved
      → is_in is_doubtful found ≡ false → commit_at r f found ≡ Err e → is_in is_unsaved found ≡ false
  kept_refused None saved e counted certain is = refl
  kept_refused (Some frame) saved e counted certain is = kept_phase frame frame.phase saved e counted certain is

  -- ---- a commit that failed

  doubted_if : (b : Bool) (frame : Frame) (took : Took) → nth r.frames f ≡ Some frame
      → (if b then Ok (commit_doubted r f frame) else Err fault.WrongState) ≡ Ok took → IsAnswered took.rec f
      × OnlyDoneBut f r took.rec
  doubted_if true frame took here is =
      let made : took ≡ commit_doubted r f frame = cc in
      let changed : took.rec.frames ≡ set_nth r.frames f (doubted_frame frame) =
      ap (λ (t : Took). t.rec.frames) made in (
        put_in is_committing r took.rec f frame (doubted_frame frame) here changed refl,
        but_one r took.rec f
            (doubted_frame frame) changed,
      )
  doubted_if false frame took here is = absurd (cc)

  doubted_at : (found : Option Frame) (took : Took) → nth r.frames f ≡ found → failed_at r f found ≡ Ok took
      → IsAnswered took.rec f × OnlyDoneBut f r took.rec
  doubted_at None took here is = absurd (cc)
  doubted_at (Some frame) took here is = doubted_if (is_committing frame.phase) frame took here is

  -- where it is refused, it wasn't asked for
  doubted_phase : (b : Bool) (frame : Frame) (e : ContainerFault)
      → (if b then Ok (commit_doubted r f frame) else Err fault.WrongState) ≡ Err e → b ≡ false
  doubted_phase true frame e is = absurd (cc)
  doubted_phase false frame e is = refl

  doubted_refused : (found : Option Frame) (e : ContainerFault) → failed_at r f found ≡ Err e
      → is_in is_committing found ≡ false
  doubted_refused None e is = refl
  doubted_refused (Some frame) e is = doubted_phase (is_committing frame.phase) frame e is

  -- ---- a save that is dropped

  dropped_if : (b : Bool) (frame : Frame) (took : Took) → nth r.frames f ≡ Some frame
      → (if b then resolved_as r f frame false else Err fault.WrongState) ≡ Ok took → IsDone took.rec f
      × OnlyDoneBut f r took.rec
  dropped_if true frame took here is =
      let made : took ≡ save_dropped r f frame = cc in
      let changed : took.rec.frames ≡ set_nth r.frames f (dropped_frame frame) =
      ap (λ (t : Took). t.rec.frames) made in (
        put_in is_unsaved r took.rec f frame (dropped_frame frame) here changed refl,
        but_one r took.rec f
            (dropped_frame frame) changed,
      )
  dropped_if false frame took here is = absurd (cc)

  dropped_at : (found : Option Frame) (took : Took) → nth r.frames f ≡ found → resolved_at r f false found ≡ Ok took
      → IsDone took.rec f × OnlyDoneBut f r took.rec
  dropped_at None took here is = absurd (cc)
  dropped_at (Some frame) took here is = dropped_if (is_doubtful frame.phase) frame took here is

  -- where it is refused, it wasn't in doubt
  dropped_phase : (p : Phase) (frame : Frame) (e : ContainerFault) → is_committing p ≡ false
      → (if is_doubtful p then resolved_as r f frame false else Err fault.WrongState) ≡ Err e → is_unsaved p ≡ false
  dropped_phase Idle frame e answered is = refl
  dropped_phase Saving frame e answered is = refl
  dropped_phase HandingOff frame e answered is = refl
  dropped_phase Committing frame e answered is = absurd (cc)
  dropped_phase InDoubt frame e answered is = absurd (cc)

  dropped_refused : (found : Option Frame) (e : ContainerFault) → is_in is_committing found ≡ false
      → resolved_at r f false found ≡ Err e → is_in is_unsaved found ≡ false
  dropped_refused None e answered is = refl
  dropped_refused (Some frame) e answered is = dropped_phase frame.phase frame e answered is

  -- ---- what calls leave

  module _ (now : Record) where
    pub commit_leaves : (counted : List Done) (told : Result Answer ContainerFault)
        → IfOk told (λ a. commit_done r f ≡ Ok (record { rec = now; answer = a; counted = counted }))
        → OnErr told (now ≡ r) → OnlyDone r now
    commit_leaves counted (Ok a) taken kept = let x =
        kept_at (nth r.frames f) (record { rec = now; answer = a; counted = counted }) refl taken in
        only_done r now f x.1 x.0
    commit_leaves counted (Err e) taken kept = same_frames r now kept

    commit_ends : (counted : List Done) (told : Result Answer ContainerFault) → IfErr told (λ e. e ≢ fault.NoMemory)
        → IfOk told (λ a. commit_done r f ≡ Ok (record { rec = now; answer = a; counted = counted }))
        → IfErr told (Refuses (commit_done r f)) → OnErr told (now ≡ r)
        → (saved : FrameDocument) → image r f ≡ Ok saved → IsCertain r f → IsDone now f
    commit_ends counted (Ok a) known taken refused kept saved fits certain =
        (kept_at (nth r.frames f) (record { rec = now; answer = a; counted = counted }) refl taken).0
    commit_ends counted (Err e) known taken refused kept saved fits certain =
        subst (λ (q : Record). IsDone q f) (sym kept)
        (kept_refused (nth r.frames f) saved e fits certain (refused_with (commit_done r f) e known refused))

    pub commit_done_by : {X E : Type 0} (result : Result X E) (counted : List Done)
        (told x : Result Answer ContainerFault) → x ≡ told → OnOk result (IfErr x (λ e. e ≢ fault.NoMemory))
        → IfOk told (λ a. commit_done r f ≡ Ok (record { rec = now; answer = a; counted = counted }))
        → IfErr told (Refuses (commit_done r f)) → OnErr told (now ≡ r)
        → OnOk result ((saved : FrameDocument) → image r f ≡ Ok saved → IsCertain r f → IsDone now f)
    commit_done_by (Ok y) counted told x same known taken refused kept =
        commit_ends counted told (subst (λ (t : Result Answer ContainerFault). IfErr t (λ e. e ≢ fault.NoMemory))
        same known) taken refused kept
    commit_done_by (Err y) counted told x same known taken refused kept = tt

    pub failure_leaves : (told : Result Answer ContainerFault)
        → IfOk told (λ a. commit_failed r f ≡ Ok (counts_none now a)) → OnErr told (now ≡ r) → OnlyDoneBut f r now
    failure_leaves (Ok a) taken kept = (doubted_at (nth r.frames f) (counts_none now a) refl taken).1
    failure_leaves (Err e) taken kept = λ g. inl (ap (λ (q : Record). nth q.frames g) kept)

    pub failure_answered : (told : Result Answer ContainerFault) → IfErr told (λ e. e ≢ fault.NoMemory)
        → IfOk told (λ a. commit_failed r f ≡ Ok (counts_none now a)) → IfErr told (Refuses (commit_failed r f))
        → OnErr told (now ≡ r) → IsAnswered now f
    failure_answered (Ok a) known taken refused kept = (doubted_at (nth r.frames f) (counts_none now a) refl taken).0
    failure_answered (Err e) known taken refused kept = subst (λ (q : Record). IsAnswered q f) (sym kept)
        (doubted_refused (nth r.frames f) e (refused_with (commit_failed r f) e known refused))

    pub drop_leaves : (counted : List Done) (told : Result Answer ContainerFault)
        → IfOk told (λ a. resolve r f false ≡ Ok (record { rec = now; answer = a; counted = counted }))
        → OnErr told (now ≡ r) → OnlyDone r now
    drop_leaves counted (Ok a) taken kept = let x = dropped_at (nth r.frames f)
        (record { rec = now; answer = a; counted = counted }) refl taken in only_done r now f x.1 x.0
    drop_leaves counted (Err e) taken kept = same_frames r now kept

    drop_ends : (counted : List Done) (told : Result Answer ContainerFault) → IfErr told (λ e. e ≢ fault.NoMemory)
        → IfOk told (λ a. resolve r f false ≡ Ok (record { rec = now; answer = a; counted = counted }))
        → IfErr told (Refuses (resolve r f false)) → OnErr told (now ≡ r)
        → IsAnswered r f → IsDone now f
    drop_ends counted (Ok a) known taken refused kept answered =
        (dropped_at (nth r.frames f) (record { rec = now; answer = a; counted = counted }) refl taken).0
    drop_ends counted (Err e) known taken refused kept answered =
        subst (λ (q : Record). IsDone q f) (sym kept)
        (dropped_refused (nth r.frames f) e answered (refused_with (resolve r f false) e known refused))

    pub drop_done_by : {X E : Type 0} (result : Result X E) (counted : List Done)
        (told x : Result Answer ContainerFault) → x ≡ told → OnOk result (IfErr x (λ e. e ≢ fault.NoMemory))
        → IfOk told (λ a. resolve r f false ≡ Ok (record { rec = now; answer = a; counted = counted }))
        → IfErr told (Refuses (resolve r f false)) → OnErr told (now ≡ r)
        → OnOk result (IsAnswered r f → IsDone now f)
    drop_done_by (Ok y) counted told x same known taken refused kept =
        drop_ends counted told (subst (λ (t : Result Answer ContainerFault). IfErr t (λ e. e ≢ fault.NoMemory)) same
        known) taken refused kept
    drop_done_by (Err y) counted told x same known taken refused kept = tt

-- A commit that failed, and whose save is dropped.
pub lost_done : {X E : Type 0} (result : Result X E) (mid now : Record) (f : ℕ) → IsAnswered mid f
    → OnOk result (IsAnswered mid f → IsDone now f) → OnOk result (IsDone now f)
lost_done (Ok x) mid now f answered done = done answered
lost_done (Err e) mid now f answered done = tt

pub lost_leaves : {X E : Type 0} (result : Result X E) (r mid now : Record) (f : ℕ) → OnlyDoneBut f r mid
    → IsAnswered mid f → OnlyDone mid now → OnOk result (IsAnswered mid f → IsDone now f)
    → OnOk result (OnlyDone r now)
lost_leaves (Ok x) r mid now f but answered next done =
    λ g. ⊎_elim (λ same. ⊎_elim (λ was. inl (same ∙ was))
    (λ is. inr (subst (λ (n : ℕ). IsDone now n) (sym is) (done answered))) (but g)) (λ is. inr is) (next g)
lost_leaves (Err e) r mid now f but answered next done = tt

-- ---- actions

carried_still : (r mid now : Record) (a : Action) → OnlyDone mid now → IsCarriedOut r mid a → IsCarriedOut r now a
carried_still r mid now (action.Send m) next done = tt
carried_still r mid now (action.Start inc) next done = tt
carried_still r mid now (action.End inc) next done = tt
carried_still r mid now (action.Commit f) next done = λ certain. done_then mid now f next (done certain)

carried_new : (r mid now : Record) (a : Action) → OnlyDone r mid → OnlyDone mid now → IsCarriedOut mid now a
    → IsCarriedOut r now a
carried_new r mid now (action.Send m) first next done = tt
carried_new r mid now (action.Start inc) first next done = tt
carried_new r mid now (action.End inc) first next done = tt
carried_new r mid now (action.Commit f) first next done = λ certain. ⊎_elim (λ still. done still)
    (λ is. done_then mid now f next is) (certain_then r mid f first certain)

-- one action more
pub carried_more : (r mid now : Record) (actions : List Action) (i : ℕ) (a : Action) → i < length actions
    → a ≡ get_or actions i a → OnlyDone r mid → OnlyDone mid now → AreCarriedOut r mid (take i actions)
    → IsCarriedOut mid now a
    → AreCarriedOut r now (take (i + 1) actions)
carried_more r mid now actions i a within is first next done here =
    All-more (IsCarriedOut r now) actions i a within
    (λ k d lt. carried_still r mid now (slice_index_or (take i actions) k d) next (done k d lt))
    (subst (λ (x : Action). IsCarriedOut r now x) is (carried_new r mid now a first next here))
