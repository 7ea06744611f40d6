-- Saves that go on leave a record sound, and so does a commit that is done.
use Rattle.std.proofs.Common.{◌≡◌, ◌≤◌, ◌+◌, ◌==◌, ℕ, zero, suc, Bool, true, false, List, [], ◌∷◌, length, map, Option}
use Rattle.std.proofs.Common.{Some, None, Result, Ok, refl, sym, ◌∙◌, ap, inl, inr, subst, arith, slice_get}
use Rattle.std.proofs.lemmas.Bool.{eqb-true, eqb-false}
use Rattle.message_values.specs.Found.{nth, set_nth}
use Rattle.message_values.specs.declared.operation.Operation.{Operation}
use Rattle.container_model.specs.declared.fault.ContainerFault.{ContainerFault}
use Rattle.container_model.specs.declared.record.Link.{Link}
use Rattle.container_model.specs.declared.record.Object.{Object}
use Rattle.container_model.specs.declared.record.Frame.{Frame}
use Rattle.container_model.specs.declared.record.Phase.{Phase}
use Rattle.container_model.specs.declared.record.Phase.TheVariants.{Idle, Saving, HandingOff, Committing, InDoubt}
use Rattle.container_model.specs.Record.{Record, Took, asked_link}
use Rattle.container_model.specs.Room.{HasNumbers, IfLinked, IsRoomy, debt, debt_in, grant_debt}
use Rattle.container_model.specs.Saves.{commit_done, commit_doubted, commit_failed, awaits, cleared, commit_at}
use Rattle.container_model.specs.Saves.{commit_made, committed_frame, completed, completion, doubted_frame}
use Rattle.container_model.specs.Saves.{dropped_frame, dropped_object, kept, resolve, resolved_at, save_dropped}
use Rattle.container_model.specs.Saves.{is_ready, is_ready_at, keeps, session_after, settle, settled_frame}
use Rattle.container_model.specs.Saves.{settled_frames}
use Rattle.container_model.proofs.Completing.{completed_in, completed_out}
use Rattle.container_queues.proofs.SteadyLookups.{each_map, each_nth, each_set, each_settled, each_weaker}
use Rattle.container_queues.proofs.SteadyLookups.{nth-set_other, nth-set_same}
use Rattle.container_steady.proofs.SteadyTells.{if_told}
use Rattle.container_numbers.proofs.SoundRooms.{IsSaved, Owing, Within, all_of, asked_linked, debts, each_of}
use Rattle.container_numbers.proofs.SoundRooms.{length-set_nth, owes_less}
use Rattle.container_queues.specs.Steady.{IsUnsettled}
use Rattle.container_steady.proofs.Settling.{IsCommitOf, done_commits, is_dropped, is_failed, kept_commits}
use Rattle.object_state.specs.Frames.{Ui}
use Rattle.tree_streams.specs.declared.stored.Stored.{Stored}
use Rattle.std.specs.Prelude.{IsOk}
use Rattle.message_values.specs.declared.operation.Operation.TheVariants.{SaveDropped}

-- ---- a frame that goes on to its commit has the same debt
ready_debt : (phase : Phase) (asked : Option (List ℕ)) (waits keeping : Bool)
    → is_ready_at phase asked waits keeping ≡ true → debt Committing asked ≡ debt phase asked
ready_debt Saving None waits keeping e = refl
ready_debt Saving (Some name) waits keeping e = cc
ready_debt HandingOff asked waits keeping e = refl
ready_debt Idle asked waits keeping e = cc
ready_debt Committing asked waits keeping e = cc
ready_debt InDoubt asked waits keeping e = cc

settled_debt : (n f : ℕ) (os : List Object) (frame : Frame)
    → debt (settled_frame f os frame).phase (settled_frame f os frame).asked + grant_debt n
    (settled_frame f os frame).ui.state ≡ debt frame.phase frame.asked + grant_debt n frame.ui.state
settled_debt n f os frame = if_told (λ (x : Frame). debt x.phase x.asked + grant_debt n x.ui.state
    ≡ debt frame.phase frame.asked + grant_debt n frame.ui.state) (is_ready f os frame)
    (record frame { phase = Committing }) frame
    (λ t. ap (λ d. d + grant_debt n frame.ui.state) (ready_debt frame.phase frame.asked (awaits f os) (keeps f os) t))
    (λ t. refl)

settled_get : (n f : ℕ) (os : List Object) (frames : List Frame) (i : ℕ)
    → debt_in n (slice_get (settled_frames f os frames) i) ≡ debt_in n (slice_get frames i)
settled_get n f os [] i = refl
settled_get n f os (frame ∷ frames) zero = settled_debt n f os frame
settled_get n f os (frame ∷ frames) (suc i) = settled_get n (f + 1) os frames i

settled_debts : (os : List Object) (frames : List Frame) (n f : ℕ) → debts (settled_frames 1 os frames) n f
    ≡ debts frames n f
settled_debts os frames n zero = refl
settled_debts os frames n (suc i) = settled_get n 1 os frames i

pub settled_length : (f : ℕ) (os : List Object) (frames : List Frame) → length (settled_frames f os frames)
    ≡ length frames
settled_length f os [] = refl
settled_length f os (frame ∷ frames) = ap suc (settled_length (f + 1) os frames)

settled_k : (numbers f : ℕ) (os : List Object) (frame : Frame) → frame.k ≤ numbers
    → (settled_frame f os frame).k ≤ numbers
settled_k numbers f os frame h = if_told (λ (x : Frame). x.k ≤ numbers) (is_ready f os frame)
    (record frame { phase = Committing }) frame (λ t. h) (λ t. h)

pub settled_sound : {Greatest : ℕ → Type 0} (r : Record) → Within Greatest (debts r.frames) r
    → HasNumbers Greatest (settle r)
settled_sound r h = record {
  limit = h.limit;
  room = all_of (Owing r.numbers (debts (settled_frames 1 r.objects r.frames))) r.objects
      (each_weaker (Owing r.numbers (debts r.frames))
      (Owing r.numbers (debts (settled_frames 1 r.objects r.frames))) r.objects
      (λ o k. owes_less r.numbers (debts r.frames) (debts (settled_frames 1 r.objects r.frames)) o
      (let e = settled_debts r.objects r.frames o.number o.frame in omega arith) k) h.room);
  saves = all_of (IsSaved r.numbers) (settled_frames 1 r.objects r.frames)
      (each_settled (IsSaved r.numbers) 1 r.objects r.frames (λ n x k. settled_k r.numbers n r.objects x k)
      h.saves);
  frames = (let e = settled_length 1 r.objects r.frames in let few = h.frames in omega arith);
  servers = h.servers;
  objects = h.objects;
  acts = h.acts;
  grants = h.grants;
}

-- ---- who is told that its save is counted pays with the save's debt
linked : (numbers more : ℕ) (op : Operation) (link : Option Link) → IfLinked (IsRoomy numbers (more + 1)) link
    → IfLinked (IsRoomy numbers more) (asked_link op (cleared link))
linked numbers more op None h = tt
linked numbers more op (Some l) h = asked_linked numbers more op (Some (record l { saved = None }))
    (record { calls = h.calls; grants = h.grants })

-- a frame whose save is over, while it owed the call that tells so; each of its objects is asked just that
module _ (r : Record) (f later : ℕ) (frame new : Frame) (at : nth r.frames f ≡ Some frame)
    (owes : debt frame.phase frame.asked ≡ 1) (idle : new.phase ≡ Idle) (ui : new.ui ≡ frame.ui)
    (k : new.k ≡ frame.k)
    (op : Operation) (g : Object → Object) (inside : (o : Object) → (o.frame == f) ≡ true → (work : Stored)
    × (g o ≡ record o { work = work; link = asked_link op (cleared o.link) }))
    (outside : (o : Object) → (o.frame == f) ≡ false → g o ≡ o) where
  abbrev after : List Frame
  after = set_nth r.frames f new

  owed_after : (n : ℕ) → debt_in n (Some new) ≡ 0 + grant_debt n frame.ui.state
  owed_after n = ap (λ p. debt p new.asked + grant_debt n new.ui.state) idle
      ∙ ap (λ (u : Ui). 0 + grant_debt n u.state) ui

  paid : (n i : ℕ) → i ≡ f → debts r.frames n i ≡ debts after n i + 1
  paid n i e =
      let now : debts after n i ≡ 0 + grant_debt n frame.ui.state = ap (debts after n) e
      ∙ (ap (debt_in n) (nth-set_same r.frames f frame new at) ∙ owed_after n) in
      let old : debts r.frames n i ≡ 1 + grant_debt n frame.ui.state = ap (debts r.frames n) e
      ∙ (ap (debt_in n) at ∙ ap (λ d. d + grant_debt n frame.ui.state) owes) in
      omega arith

  told_room : (o : Object) → Owing r.numbers (debts r.frames) o → Owing r.numbers (debts after) (g o)
  told_room o h = elim (o.frame == f) as (λ b. (o.frame == f) ≡ b → Owing r.numbers (debts after) (g o)) [
    | true ↦ (λ t. subst (Owing r.numbers (debts after)) (sym (inside o t).1)
        (linked r.numbers (debts after o.number o.frame) op o.link
        (subst (λ (m : ℕ). IfLinked (IsRoomy r.numbers m) o.link) (paid o.number o.frame (eqb-true o.frame f t))
        h)))
    | false ↦ (λ t. subst (Owing r.numbers (debts after)) (sym (outside o t))
        (subst (λ (m : ℕ). IfLinked (IsRoomy r.numbers m) o.link)
        (ap (debt_in o.number)
        (sym (nth-set_other r.frames f o.frame new (λ q. eqb-false o.frame f t (sym q))))) h))
  ] refl

  told_sound : {Greatest : ℕ → Type 0} → HasNumbers Greatest r
      → HasNumbers Greatest (record r { session = later; frames = after; objects = map g r.objects })
  told_sound h = record {
    limit = h.limit;
    room = all_of (Owing r.numbers (debts after)) (map g r.objects)
        (each_map (Owing r.numbers (debts r.frames)) (Owing r.numbers (debts after)) g r.objects told_room
        (each_of (Owing r.numbers (debts r.frames)) r.objects h.room));
    saves = (let all = each_of (IsSaved r.numbers) r.frames h.saves in
        all_of (IsSaved r.numbers) after (each_set (IsSaved r.numbers) r.frames f new all
        (subst (λ (m : ℕ). m ≤ r.numbers) (sym k) (each_nth (IsSaved r.numbers) r.frames f frame all at))));
    frames = (let e = length-set_nth r.frames f new in let few = h.frames in omega arith);
    servers = h.servers;
    objects = h.objects;
    acts = h.acts;
    grants = h.grants;
  }

unsettled_owes : (phase : Phase) (asked : Option (List ℕ)) → IsUnsettled phase → debt phase asked ≡ 1
unsettled_owes phase asked (inl e) = ap (λ p. debt p asked) e
unsettled_owes phase asked (inr e) = ap (λ p. debt p asked) e

module _ (r : Record) (f : ℕ) (frame : Frame) (at : nth r.frames f ≡ Some frame) where
  pub commit_sound : {Greatest : ℕ → Type 0} → IsUnsettled frame.phase → HasNumbers Greatest r
      → HasNumbers Greatest (commit_made r f frame).rec
  commit_sound u h = told_sound r f (session_after r.session frame.raised) frame (committed_frame frame) at
      (unsettled_owes frame.phase frame.asked u) refl refl refl (completion frame) (completed f frame)
      (λ o t. (kept o, completed_in f frame o t)) (λ o t. completed_out f frame o t) h

  dropped_in : (o : Object) → (o.frame == f) ≡ true → dropped_object f frame o
      ≡ record o { link = asked_link (SaveDropped frame.k) (cleared o.link) }
  dropped_in o e = rw (e, e) refl

  dropped_out : (o : Object) → (o.frame == f) ≡ false → dropped_object f frame o ≡ o
  dropped_out o e = rw (e, e) refl

  drop_sound : {Greatest : ℕ → Type 0} → frame.phase ≡ InDoubt → HasNumbers Greatest r
      → HasNumbers Greatest (save_dropped r f frame).rec
  drop_sound p h = told_sound r f r.session frame (dropped_frame frame) at
      (unsettled_owes frame.phase frame.asked (inr p)) refl refl refl (SaveDropped frame.k) (dropped_object f frame)
      (λ o t. (o.work, dropped_in o t)) (λ o t. dropped_out o t) h

  -- a commit that fails owes what it owed
  same_debt : frame.phase ≡ Committing → (n i : ℕ) → debts (set_nth r.frames f (doubted_frame frame)) n i
      ≤ debts r.frames n i
  same_debt p n i = elim (i == f) as (λ b. (i == f) ≡ b → debts (set_nth r.frames f (doubted_frame frame)) n i
      ≤ debts r.frames n i) [
        | true ↦ (λ t. let e = eqb-true i f t in
            let now : debts (set_nth r.frames f (doubted_frame frame)) n i ≡ 1 + grant_debt n frame.ui.state =
            ap (debts (set_nth r.frames f (doubted_frame frame)) n) e
            ∙ ap (debt_in n) (nth-set_same r.frames f frame (doubted_frame frame) at) in
            let old : debts r.frames n i ≡ 1 + grant_debt n frame.ui.state = ap (debts r.frames n) e
            ∙ (ap (debt_in n) at ∙ ap (λ q. debt q frame.asked + grant_debt n frame.ui.state) p) in
            omega arith)
        | false ↦ (λ t. let e : debts (set_nth r.frames f (doubted_frame frame)) n i ≡ debts r.frames n i =
            ap (debt_in n) (nth-set_other r.frames f i (doubted_frame frame) (λ q. eqb-false i f t (sym q))) in
            omega arith)
      ] refl

  doubt_sound : {Greatest : ℕ → Type 0} → frame.phase ≡ Committing → HasNumbers Greatest r
      → HasNumbers Greatest (commit_doubted r f frame).rec
  doubt_sound p h = record {
    limit = h.limit;
    room = all_of (Owing r.numbers (debts (set_nth r.frames f (doubted_frame frame)))) r.objects
        (each_weaker (Owing r.numbers (debts r.frames))
        (Owing r.numbers (debts (set_nth r.frames f (doubted_frame frame)))) r.objects
        (λ o w. owes_less r.numbers (debts r.frames) (debts (set_nth r.frames f (doubted_frame frame))) o
        (same_debt p o.number o.frame) w) (each_of (Owing r.numbers (debts r.frames)) r.objects h.room));
    saves = (let all = each_of (IsSaved r.numbers) r.frames h.saves in
        all_of (IsSaved r.numbers) (set_nth r.frames f (doubted_frame frame))
        (each_set (IsSaved r.numbers) r.frames f (doubted_frame frame) all
        (each_nth (IsSaved r.numbers) r.frames f frame all at)));
    frames = (let e = length-set_nth r.frames f (doubted_frame frame) in let few = h.frames in omega arith);
    servers = h.servers;
    objects = h.objects;
    acts = h.acts;
    grants = h.grants;
  }

-- each of the steps that end or fail a commit
commit_keeps : {Greatest : ℕ → Type 0} (r : Record) (f : ℕ) (found : Option Frame)
    (told : Result Took ContainerFault) (t : Took) → nth r.frames f ≡ found → (found ≡ None → IsOk told → ⊥)
    → ((frame : Frame) → nth r.frames f ≡ Some frame → IsCommitOf r f frame told) → HasNumbers Greatest r
    → told ≡ Ok t → HasNumbers Greatest t.rec
commit_keeps r f None told t at none commits h e =
    absurd (none refl (subst (λ (z : Result Took ContainerFault). IsOk z) (sym e) refl))
commit_keeps {Greatest} r f (Some frame) told t at none commits h e =
    (let c = commits frame at t e in subst (λ (z : Took). HasNumbers Greatest z.rec) c.1
    (commit_sound r f frame at c.0 h))

unframed_commit : (r : Record) (f : ℕ) → nth r.frames f ≡ None → IsOk (commit_done r f) → ⊥
unframed_commit r f e h = (let no : IsOk (commit_at r f None) = subst (λ (z : Option Frame). IsOk (commit_at r f z))
    e h in cc)

unframed_kept : (r : Record) (f : ℕ) → nth r.frames f ≡ None → IsOk (resolve r f true) → ⊥
unframed_kept r f e h = (let no : IsOk (resolved_at r f true None) =
    subst (λ (z : Option Frame). IsOk (resolved_at r f true z)) e h in cc)

pub commits_keep : {Greatest : ℕ → Type 0} (r : Record) (f : ℕ) (t : Took) → HasNumbers Greatest r
    → commit_done r f ≡ Ok t → HasNumbers Greatest t.rec
commits_keep r f t h e = commit_keeps r f (nth r.frames f) (commit_done r f) t refl (λ n. unframed_commit r f n)
    (λ frame at. done_commits r f frame at) h e

pub fails_keep : {Greatest : ℕ → Type 0} (r : Record) (f : ℕ) (t : Took) → HasNumbers Greatest r
    → commit_failed r f ≡ Ok t → HasNumbers Greatest t.rec
fails_keep {Greatest} r f t h e =
    (let c = is_failed r f t e in subst (λ (z : Took). HasNumbers Greatest z.rec) c.made
    (doubt_sound r f c.frame c.there c.phase h))

pub resolves_keep : {Greatest : ℕ → Type 0} (r : Record) (f : ℕ) (is_kept : Bool) (t : Took) → HasNumbers Greatest r
    → resolve r f is_kept ≡ Ok t → HasNumbers Greatest t.rec
resolves_keep r f true t h e = commit_keeps r f (nth r.frames f) (resolve r f true) t refl
    (λ n. unframed_kept r f n) (λ frame at. kept_commits r f frame at) h e
resolves_keep {Greatest} r f false t h e =
    (let c = is_dropped r f t e in subst (λ (z : Took). HasNumbers Greatest z.rec) c.made
    (drop_sound r f c.frame c.there c.phase h))
