-- What an event of the present run makes of it: the record steps as a container's does or stays, and the run by itself
-- holds.
use Rattle.std.proofs.Common.{◌≡◌, ◌==◌, ℕ, zero, suc, true, false, not, List, [], ◌∷◌, ◌++◌, Option, Some, None}
use Rattle.std.proofs.Common.{Result, Ok, Err, refl, sym, ap, ◌∙◌, subst, inl, inr, append-nil, eq-eqb, eqb-true}
use Rattle.std.proofs.lemmas.Bool.{false≢true}
use Rattle.message_values.specs.Found.{nth, set_nth}
use Rattle.message_values.specs.declared.message.Message.{Message}
use Rattle.message_values.specs.declared.message.Said.{Said}
use Rattle.message_values.specs.declared.message.Said.TheVariants.{Call, Reply, Write, Ask}
use Rattle.message_values.specs.declared.operation.Operation.{Operation}
use Rattle.message_values.specs.declared.operation.Operation.TheVariants.{Close}
use Rattle.message_values.specs.declared.answer.Answer.TheVariants.{Content}
use Rattle.message_values.specs.declared.answer.Answer.TheVariants as told
use Rattle.object_state.specs.declared.operations.CloseOption.TheVariants.{SaveIfDirty}
use Rattle.container_model.specs.Record.{Record, Took, unless}
use Rattle.container_model.specs.Commands.{on_command}
use Rattle.container_model.specs.Inputs.{Input, on_input}
use Rattle.container_model.specs.Messages.{is_on, on_message, on_reap, said_to}
use Rattle.container_model.specs.Opens.{opened}
use Rattle.container_model.specs.Saves.{commit_done, commit_failed, image, image_at, resolve}
use Rattle.container_model.specs.declared.answer.FrameDocument.{FrameDocument}
use Rattle.container_model.specs.declared.command.Command.{Command}
use Rattle.container_model.specs.declared.fault.ContainerFault.{ContainerFault}
use Rattle.container_model.specs.declared.fault.ContainerFault.TheVariants.{Stale, WrongLink}
use Rattle.container_model.specs.declared.record.Frame.{Frame}
use Rattle.container_numbers.specs.Sessions.{IsOf}
use Rattle.container_numbers.specs.Sound.{IsNumbered}
use Rattle.container_numbers.proofs.SoundInputs.{numbers_after}
use Rattle.container_queues.specs.Steady.{Steady}
use Rattle.container_steady.proofs.Settling.{IsCommitOf, done_commits, kept_commits, not_idle}
use Rattle.world_model.specs.declared.event.Event.{Event}
use Rattle.world_model.specs.declared.event.Event.TheVariants as event
use Rattle.world_model.specs.declared.event.Stop.{Stop}
use Rattle.world_model.specs.declared.life.Life.{Life}
use Rattle.world_model.specs.declared.life.Life.TheVariants.{Running, Ended, Reaped}
use Rattle.world_model.specs.declared.logs.EventAnswer.{EventAnswer}
use Rattle.world_model.specs.declared.logs.EventAnswer.TheVariants as answered
use Rattle.world_model.specs.declared.logs.File.{File}
use Rattle.world_model.specs.declared.logs.Sent.{Sent}
use Rattle.world_model.specs.declared.logs.Taken.{Taken}
use Rattle.world_model.specs.World.{Choice, Instance, World, ask, called, commanded, crash, deliver, delivered}
use Rattle.world_model.specs.World.{delivered_said, ended, forge, forged, forged_on}
use Rattle.world_model.specs.World.{happened, in_session, joined, link_of, link_to, only_taken, reap, scribble}
use Rattle.world_model.specs.World.{done_with, taken_at, taken_by, taken_said, took, uncounted, with_taken}
use Rattle.world_model.specs.Safe.{Among, BringsBy, IsGranted, IsHonest, WasSent, messages}
use Rattle.world_model.proofs.InRun.{in_run_ok}
use Rattle.world_facts.proofs.Honest.{honest_before}
use Rattle.world_facts.proofs.Lookups.{among_join, among_map, among_mapped, among_new, among_old, nth_old}
use Rattle.world_files.specs.Files.{MakesDocument}
use Rattle.world_safety.specs.Holding.{Holds}
use Rattle.world_safety.proofs.Events.{sent_place}
use Rattle.world_safety.proofs.Held.{held_happened}
use Rattle.world_model.specs.SafeStory.{IsGrantedIn}
use Rattle.world_model.specs.Story.{session_at, session_of, session_of_call}
use Rattle.world_stories.specs.Holding.{mirror, sent_in}
use Rattle.world_stories.specs.Steps.{Counts, CountsBy, CountsNone, Goes, IsInputOf, KeepsFirst, Steps, left_of}
use Rattle.world_stories.specs.Steps.{made_by, rec_stays, rec_steps, twin}
use Rattle.world_stories.proofs.Elsewhere.{reset}
use Rattle.world_stories.proofs.Following.{follows_ask, follows_called, follows_crash, follows_scribble}
use Rattle.world_stories.proofs.Members.{place_in, sent_among}
use Rattle.world_stories.proofs.Twins.{Both, landed, logged_is, ok_is, taken_placed, twins_ask, twins_commanded}
use Rattle.world_stories.proofs.Twins.{twins_crash, twins_delivered, twins_done, twins_only, twins_reap, twins_run}
use Rattle.world_stories.proofs.Twins.{twins_scribble, twins_took}

-- ---- the record and the files after an event

-- as a step of the container that is taken leaves the record
abbrev rec_after : Record → Result Took ContainerFault → Record
rec_after r (Err fault) = r
rec_after r (Ok t) = t.rec

-- the record is this one, and what was counted of frame 1 stays
record IsAfter (w v : World) (r : Record) : Type 0 where
  rec : v.rec ≡ r
  keeps : KeepsFirst w v

-- a step of the container may count one more frame, without a document
joined_keeps : (w : World) (t : Took) → KeepsFirst w (joined w t)
joined_keeps w t d at = nth_old w.counted (uncounted t.answer.frame) 1 (Some d) at

after_ok : (w a v : World) (r : Record) → ◌≡◌ {A = Result World Stop} (Ok a) (Ok v) → IsAfter w a r → IsAfter w v r
after_ok w a v r e h = subst (λ y. IsAfter w y r) (ok_is a v e) h

took_after : (w : World) (told : Result Took ContainerFault) → IsAfter w (took w told) (rec_after w.rec told)
took_after w (Err fault) = record { rec = refl; keeps = λ d at. at }
took_after w (Ok t) = record { rec = refl; keeps = joined_keeps w t }

commanded_after : (w : World) (c : Command) (told : Result Took ContainerFault)
    → IsAfter w (commanded w c told) (rec_after w.rec told)
commanded_after w c (Err fault) = record { rec = refl; keeps = λ d at. at }
commanded_after w c (Ok t) = record { rec = refl; keeps = joined_keeps w t }

-- what goes on at a server leaves both
left_after : (w v : World) → left_of w v ≡ v → IsAfter w v w.rec
left_after w v stays = record {
  rec = ap (λ (y : World). y.rec) (sym stays);
  keeps = λ d at. ap (λ (y : World). nth y.counted 1) (sym stays) ∙ at;
}

called_after : (w : World) (m : Message) (inc act n : ℕ) (op : Operation) (v : World)
    → called w m.session inc act n op (nth w.instances inc) ≡ Ok v
    → IsAfter w v w.rec
called_after w m inc act n op v e =
    left_after w v (follows_called w w.rec [] [] m.session inc act n op (nth w.instances inc) v e).stays

module _ (w : World) (inc : ℕ) where
  -- what a server's end leaves
  ended_after : (i : Instance) (life : Life) (v : World) → ended w inc i life ≡ Ok v
      → IsAfter w v (rec_after w.rec (on_reap w.rec inc))
  ended_after i Running v e = cc
  ended_after i Ended v e = after_ok w _ v (rec_after w.rec (on_reap w.rec inc)) e
      (at (set_nth w.instances inc (record i { life = Reaped })) (on_reap w.rec inc))
    where
      at : (instances : List Instance) (told : Result Took ContainerFault)
          → IsAfter w (took (record w { instances = instances }) told) (rec_after w.rec told)
      at instances (Err fault) = record { rec = refl; keeps = λ d g. g }
      at instances (Ok t) = record { rec = refl; keeps = joined_keeps w t }
  ended_after i Reaped v e = cc

  reap_after : (i : Option Instance) (v : World) → reap w inc i ≡ Ok v
      → IsAfter w v (rec_after w.rec (on_reap w.rec inc))
  reap_after None v e = cc
  reap_after (Some i) v e = ended_after i i.life v e

-- ---- steps

-- where no commit is counted, by what the container is told
module _ (w : World) (choice : Choice) (e : Event) (none : CountsNone e) (v : World) where
  same_steps : IsAfter w v w.rec → Steps w v choice e
  same_steps h = rec_stays none h.rec h.keeps

  told_steps : (x : Input) (told : Result Took ContainerFault) → IsInputOf x choice e
      → (KeepsFirst w v → CountsBy w v x) → on_input w.rec x ≡ told
      → IsAfter w v (rec_after w.rec told) → Steps w v choice e
  told_steps x (Err fault) is counts q h = rec_stays none h.rec h.keeps
  told_steps x (Ok t) is counts q h = rec_steps x t is q h.rec (counts h.keeps)

-- a message
module _ (w : World) (choice : Choice) (p : ℕ) where
  message_steps : (m : Message) (v : World)
      → ◌≡◌ {A = Result World Stop} (Ok (took w (on_message w.rec (link_of m) m))) (Ok v)
      → Steps w v choice (event.Deliver p)
  message_steps m v e =
      let told = on_message w.rec (link_of m) m in
      told_steps w choice (event.Deliver p) tt v (Input.Told (link_of m) m) told (link_of m, m, refl) (λ k. k) refl
      (after_ok w _ v _ e (took_after w told))

  said_steps : (m : Message) (x : Said) (v : World) → delivered_said w m x ≡ Ok v → Steps w v choice (event.Deliver p)
  said_steps m (Call inc act n op) v e = same_steps w choice (event.Deliver p) tt v (called_after w m inc act n op v e)
  said_steps m (Reply inc act n answer) v e = message_steps m v e
  said_steps m (Write inc act s n content) v e = message_steps m v e
  said_steps m (Ask inc act g) v e = message_steps m v e

  -- what is taken is logged besides
  logged_same : (a : World) (more : List Taken) → Steps w a choice (event.Deliver p)
      → Steps w (record a { taken = more }) choice (event.Deliver p)
  logged_same a more (rec_stays none r k) = rec_stays none r k
  logged_same a more (rec_steps x t is q r c) =
      rec_steps x t is q r (subst (λ y. CountsBy w a y → CountsBy w (record a { taken = more }) y) (sym is.2)
      (λ k. k) c)

  logged_steps : (more : List Taken) (told : Result World Stop) (v : World)
      → ((a : World) → told ≡ Ok a → Steps w a choice (event.Deliver p)) → with_taken w more told ≡ Ok v
      → Steps w v choice (event.Deliver p)
  logged_steps more (Err stop) v g e = cc
  logged_steps more (Ok a) v g e = subst (λ y. Steps w y choice (event.Deliver p)) (ok_is _ v e)
      (logged_same a (w.taken ++ more) (g a refl))

  deliver_steps : (x : Option Sent) (v : World) → deliver w p x ≡ Ok v → Steps w v choice (event.Deliver p)
  deliver_steps None v e = cc
  deliver_steps (Some x) v e = logged_steps (taken_at w.rec (Some p) (link_of x.message) x.message)
      (delivered w x.message) v (λ a q. said_steps x.message x.message.said a q) e

-- a forged message is taken as one that was delivered
module _ (w : World) (inc : ℕ) (m : Message) where
  forged_is : (life : Life) (v : World) → forged w inc m life ≡ Ok v → v ≡ forged_on w inc m
  forged_is Running v e = sym (ok_is _ v e)
  forged_is Ended v e = sym (ok_is _ v e)
  forged_is Reaped v e = cc

  pub forge_is : (i : Option Instance) (v : World) → forge w inc m i ≡ Ok v → v ≡ forged_on w inc m
  forge_is None v e = cc
  forge_is (Some i) v e = forged_is i.life v e

  forged_after : (told : Result Took ContainerFault) (taken : List Taken) (hostile : List ℕ)
      → IsAfter w (record (took w told) { taken = taken; hostile = hostile }) (rec_after w.rec told)
  forged_after (Err fault) taken hostile = record { rec = refl; keeps = λ d at. at }
  forged_after (Ok t) taken hostile = record { rec = refl; keeps = joined_keeps w t }

  forge_after : (i : Option Instance) (v : World) → forge w inc m i ≡ Ok v
      → IsAfter w v (rec_after w.rec (on_message w.rec (link_to w inc) m))
  forge_after i v e = (let told = on_message w.rec (link_to w inc) m in
      subst (λ y. IsAfter w y (rec_after w.rec told)) (sym (forge_is i v e))
      (forged_after told (w.taken ++ taken_at w.rec None (link_to w inc) m) (w.hostile ++ inc ∷ [])))

-- a step of the container that happens only where it is taken
only_steps : (w : World) (choice : Choice) (e : Event) (x : Input) (told : Result Took ContainerFault) (v : World)
    → IsInputOf x choice e
    → (KeepsFirst w v → CountsBy w v x) → on_input w.rec x ≡ told → only_taken w told ≡ Ok v → Steps w v choice e
only_steps w choice e x (Err fault) v is counts q ok = cc
only_steps w choice e x (Ok t) v is counts q ok =
    (let same = ok_is _ v ok in rec_steps x t is q (ap (λ (y : World). y.rec) (sym same))
    (counts (subst (KeepsFirst w) same (joined_keeps w t))))

-- a commit that is counted
module _ (w : World) (f : ℕ) (bytes : List ℕ) (told : Result Took ContainerFault)
    (commits : (frame : Frame) → nth w.rec.frames f ≡ Some frame → IsCommitOf w.rec f frame told) where
  abbrev Made : World → Type 0
  Made v = (t : Took) × (told ≡ Ok t) × (v.rec ≡ t.rec) × Counts w v f

  made_taken : (frame : Frame) (saved : FrameDocument) (r : Result Took ContainerFault) (v : World)
      → nth w.rec.frames f ≡ Some frame
      → image_at w.rec f (Some frame) ≡ Ok saved → told ≡ r → done_with w f bytes (Some frame) (Ok saved) r ≡ Ok v
      → Made v
  made_taken frame saved (Err fault) v at im is ok = cc
  made_taken frame saved (Ok t) v at im is ok = (let c = commits frame at t is in subst Made (ok_is _ v ok) (
    t,
    is,
    refl,
    record {
      frame = frame;
      at = at;
      busy = not_idle frame.phase c.0;
      rec = sym (ap (λ (y : Took). y.rec) c.1);
      saved = saved;
      imaged = im;
      document = record { k = frame.k; session = saved.session; parts = saved.parts };
      bears = refl;
      more = uncounted t.answer.frame;
      counted = refl;
    },
  ))

  made_done : (found : Option Frame) (saved : Result FrameDocument ContainerFault) (v : World)
      → nth w.rec.frames f ≡ found → image_at w.rec f found ≡ saved → done_with w f bytes found saved told ≡ Ok v
      → Made v
  made_done None saved v at im ok = cc
  made_done (Some frame) (Err fault) v at im ok = cc
  made_done (Some frame) (Ok saved) v at im ok = made_taken frame saved told v at im refl ok

pub done_made : (w : World) (f : ℕ) (bytes : List ℕ) (v : World)
    → done_with w f bytes (nth w.rec.frames f) (image w.rec f) (commit_done w.rec f) ≡ Ok v
    → Made w f bytes (commit_done w.rec f) (done_commits w.rec f) v
done_made w f bytes v ok = made_done w f bytes (commit_done w.rec f) (done_commits w.rec f) (nth w.rec.frames f)
    (image w.rec f) v refl refl ok

pub kept_made : (w : World) (f : ℕ) (bytes : List ℕ) (v : World)
    → done_with w f bytes (nth w.rec.frames f) (image w.rec f) (resolve w.rec f true) ≡ Ok v
    → Made w f bytes (resolve w.rec f true) (kept_commits w.rec f) v
kept_made w f bytes v ok = made_done w f bytes (resolve w.rec f true) (kept_commits w.rec f) (nth w.rec.frames f)
    (image w.rec f) v refl refl ok

-- of the record each event makes what the container does, if it is an input of it
pub steps : (w : World) (choice : Choice) (e : Event) (v : World) → happened w choice e ≡ Ok v → Steps w v choice e
steps w choice (event.Command c) v ok =
    told_steps w choice (event.Command c) tt v (Input.Ordered c) (on_command w.rec c) refl (λ k. k) refl
    (after_ok w _ v _ ok (commanded_after w c (on_command w.rec c)))
steps w choice (event.Deliver p) v ok = deliver_steps w choice p (nth w.sent p) v ok
steps w choice (event.Forge inc m) v ok = (let told = on_message w.rec (link_to w inc) m in
    told_steps w choice (event.Forge inc m) tt v (Input.Told (link_to w inc) m) told (link_to w inc, refl) (λ k. k) refl
    (forge_after w inc m (nth w.instances inc) v ok))
steps w choice (event.Crash s inc) v ok = (let i = nth w.instances inc in
    same_steps w choice (event.Crash s inc) tt v
    (left_after w v (follows_crash w w.rec [] [] inc i v (in_run_ok w s (crash w inc i) v ok)).stays))
steps w choice (event.Reap inc) v ok =
    told_steps w choice (event.Reap inc) tt v (Input.Reaped inc) (on_reap w.rec inc) refl (λ k. k) refl
    (reap_after w inc (nth w.instances inc) v ok)
steps w choice (event.Done f) v ok = (let k = done_made w f choice.file v ok in
    rec_steps (Input.Committed f) k.0 refl k.1 k.2 k.3)
steps w choice (event.Fail f) v ok = only_steps w choice (event.Fail f) (Input.Failed f) (commit_failed w.rec f) v
    refl (λ k. k) refl ok
steps w choice (event.Resolve f true) v ok = (let k = kept_made w f choice.file v ok in
    rec_steps (Input.Resolved f true) k.0 refl k.1 k.2 k.3)
steps w choice (event.Resolve f false) v ok =
    only_steps w choice (event.Resolve f false) (Input.Resolved f false) (resolve w.rec f false) v refl (λ k. k) refl ok
steps w choice (event.Open name x y) v ok = (let told = opened w.rec name x y choice.given in
    told_steps w choice (event.Open name x y) tt v (Input.Opened name x y choice.given) told refl (λ k. k) refl
    (after_ok w _ v _ ok (took_after w told)))
steps w choice (event.Scribble s inc act) v ok = (let i = nth w.instances inc in
    same_steps w choice (event.Scribble s inc act) tt v
    (left_after w v (follows_scribble w w.rec [] [] inc act i v (in_run_ok w s (scribble w inc act i) v ok)).stays))
steps w choice (event.Ask s inc act) v ok = (let i = nth w.instances inc in
    same_steps w choice (event.Ask s inc act) tt v
    (left_after w v (follows_ask w w.rec [] [] inc act i v (in_run_ok w s (ask w inc act i) v ok)).stays))

-- ---- the greatest number stays

numbers_by : (w : World) (choice : Choice) (e : Event) (v : World) → Steady w.rec → IsNumbered w.rec.numbers w.rec
    → Steps w v choice e → v.rec.numbers ≡ w.rec.numbers
numbers_by w choice e v s n (rec_stays none r keeps) = ap (λ (y : Record). y.numbers) r
numbers_by w choice e v s n (rec_steps x t is q r counts) = ap (λ (y : Record). y.numbers) r
    ∙ (numbers_after w.rec.numbers w.rec x t s n q).limit

-- ---- what was granted in the run by itself was granted among the others

brings_over : (u v : World) (session : ℕ) (x : Said) (t : Taken) (q : Option ℕ)
    → ((m : Message) → WasSent u m → WasSent v m) → BringsBy u session x (record t { place = q })
    → BringsBy v session x t
brings_over u v session (Call inc act n op) t q over b = absurd b
brings_over u v session (Reply inc act n told.Done) t q over b = absurd b
brings_over u v session (Reply inc act n (told.Refused why)) t q over b = absurd b
brings_over u v session (Reply inc act n (Content content)) t q over b =
    (b.0, b.1, over (in_session session (Call inc act n (Close SaveIfDirty))) b.2)
brings_over u v session (Reply inc act n (told.Tools menus border)) t q over b = absurd b
brings_over u v session (Write inc act s number content) t q over b = b
brings_over u v session (Ask inc act g) t q over b = absurd b

granted_over : (u v : World) (session : ℕ) (t : Taken) (q : Option ℕ) (p : ℕ) (m : Message)
    → ((y : Sent) → Among u.sent y → Among v.sent y) → (g : IsGranted u (record t { place = q }))
    → m ≡ g.message → m.session ≡ session → t.place ≡ Some p → nth (messages v.sent) p ≡ Some m
    → IsGrantedIn v session t
granted_over u v session t q p m over g same is at delivered = (let s = g.sent in record {
  granted = record {
    message = g.message;
    place = p;
    placed = at;
    delivered = delivered ∙ ap Some same;
    brings = brings_over u v g.message.session g.message.said t q (λ y a. sent_over y a) g.brings;
    sent = (s.0, over (record { message = g.message; view = Some s.0 }) s.1, s.2, s.3, s.4);
    held_open = g.held_open;
    unasked = g.unasked;
  };
  in_session = ap (λ (y : Message). y.session) (sym same) ∙ is;
})
  where
    sent_over : (m : Message) → WasSent u m → WasSent v m
    sent_over m a = (let k = among_mapped (λ (y : Sent). y.message) u.sent m a in
        subst (Among (messages v.sent)) (sym k.2) (among_map (λ (y : Sent). y.message) v.sent k.0 (over k.0 k.1)))

-- the message at a place, also when more was sent
placed_message : (xs more all : List Sent) (p : ℕ) (x : Sent) → all ≡ xs ++ more → nth xs p ≡ Some x
    → nth (messages all) p ≡ Some x.message
placed_message xs more all p x is at = nth_messages all p x
    (ap (λ (ys : List Sent). nth ys p) is ∙ nth_old xs more p x at)
  where
    nth_messages : (ys : List Sent) (p : ℕ) (x : Sent) → nth ys p ≡ Some x → nth (messages ys) p ≡ Some x.message
    nth_messages ys zero x e = cc
    nth_messages [] (suc i) x e = cc
    nth_messages (y ∷ ys) (suc zero) x e = (let q : y ≡ x = cc in ap (λ (z : Sent). Some z.message) q)
    nth_messages (y ∷ ys) (suc (suc i)) x e = nth_messages ys (suc i) x e

-- ---- a message of another session isn't taken
stale : (r : Record) (m : Message) → (m.session == r.session) ≡ false → (fault : ContainerFault)
    × (on_message r (link_of m) m ≡ Err fault)
stale r m e = elim (is_on (link_of m) m) as (λ b. (fault : ContainerFault)
    × (unless (not b) WrongLink (unless (not (m.session == r.session)) Stale (said_to r m.said)) ≡ Err fault)) [
      | true ↦ (Stale, ap (λ b. unless (not b) Stale (said_to r m.said)) e)
      | false ↦ (WrongLink, refl)
    ]

-- so that it changes nothing
refused_is : (w : World) (p : Option ℕ) (inc act : ℕ) (told : Result Took ContainerFault) (fault : ContainerFault)
    (v : World) → told ≡ Err fault
    → with_taken w (taken_by w.rec p inc act told) (Ok (took w told)) ≡ Ok v
    → record w { answers = w.answers ++ answered.Refused fault ∷ []; taken = w.taken ++ [] } ≡ v
refused_is w p inc act told fault v q ok =
    ok_is _ v (subst (λ y. with_taken w (taken_by w.rec p inc act y) (Ok (took w y)) ≡ Ok v) q ok)

pub stale_is : (w : World) (p : Option ℕ) (m : Message) (said : Said) (v : World) → (m.session == w.rec.session) ≡ false
    → session_of_call w.rec.session m said ≡ w.rec.session
    → with_taken w (taken_said w.rec p (link_of m) m said) (delivered_said w m said) ≡ Ok v
    → (fault : ContainerFault)
    × (record w { answers = w.answers ++ answered.Refused fault ∷ []; taken = w.taken ++ [] } ≡ v)
stale_is w p m (Call inc act n op) v apart is ok = absurd (false≢true (sym apart ∙ eq-eqb m.session w.rec.session is))
stale_is w p m (Reply inc act n answer) v apart is ok =
    (let k = stale w.rec m apart in (k.0, refused_is w p inc act (on_message w.rec (link_of m) m) k.0 v k.1 ok))
stale_is w p m (Write inc act s n content) v apart is ok =
    (let k = stale w.rec m apart in (k.0, refused_is w p inc act (on_message w.rec (link_of m) m) k.0 v k.1 ok))
stale_is w p m (Ask inc act g) v apart is ok =
    (let k = stale w.rec m apart in (k.0, refused_is w p inc act (on_message w.rec (link_of m) m) k.0 v k.1 ok))

-- ---- what is made of a message
deliver_is : (w : World) (p : ℕ) (x : Option Sent) (v : World) → deliver w p x ≡ Ok v
    → (y : Sent) × (x ≡ Some y)
    × (with_taken w (taken_at w.rec (Some p) (link_of y.message) y.message) (delivered w y.message) ≡ Ok v)
deliver_is w p None v ok = cc
deliver_is w p (Some y) v ok = (y, refl, ok)

-- ---- the present run
module _ (w : World) (mine : List File) (choice : Choice) (h : Holds (mirror w mine)) where
  abbrev xs : List Sent
  xs = sent_in w.rec.session w.sent

  -- where nothing is taken
  quiet_goes : (e : Event) (v : World) → Both w xs (made_by w choice e mine) (made_by w choice e w.files) v
      (happened (mirror w mine) choice e) → MakesDocument (mirror w mine) choice e
      → v.rec.numbers ≡ w.rec.numbers → Goes w v mine choice e
  quiet_goes e v b im n = record {
    more = b.twins.more;
    sent = b.twins.sent;
    of = b.twins.of;
    numbers = n;
    holds = subst Holds b.twins.same (reset b.world (held_happened (mirror w mine) choice e b.world h im b.ok));
    granted = λ t a honest. inl (
      subst (λ ts. Among ts t) b.twins.taken a,
      subst (λ hs. IsHonest hs t.inc)
          b.twins.hostile honest,
    );
    files = b.twins.made;
  }

  -- what has sent xs and then more, and what has sent all that was sent before, and then the same
  over_all : (more : List Sent) (y : Sent) → Among (xs ++ more) y → Among (w.sent ++ more) y
  over_all more y a =
      elim (among_join xs more y a) [
        | inl old ↦ among_old w.sent more y
            (sent_among w.rec.session w.sent y old)
        | inr new ↦ among_new w.sent more y new
      ]

  module _ (p : ℕ) (x : Sent) (at : nth w.sent p ≡ Some x) where
    abbrev taken_here : Option ℕ → List Taken
    taken_here q = taken_at w.rec q (link_of x.message) x.message

    -- a message of this session is at its place in the run by itself
    module _ (is : x.message.session ≡ w.rec.session) (q : ℕ) (there : nth xs q ≡ Some x) (a : World)
        (b : Both w xs mine w.files a (delivered (mirror w mine) x.message)) where
      abbrev joined_by : World
      joined_by = record a { taken = w.taken ++ taken_here (Some p) }

      abbrev alone : World
      alone = record b.world { taken = taken_here (Some q) }

      alone_ok : happened (mirror w mine) choice (event.Deliver q) ≡ Ok alone
      alone_ok = ap (deliver (mirror w mine) q) there ∙ ap (with_taken (mirror w mine) (taken_here (Some q))) b.ok

      held : Holds alone
      held = held_happened (mirror w mine) choice (event.Deliver q) alone h tt alone_ok

      sent_alone : alone.sent ≡ xs ++ b.twins.more
      sent_alone = ap (λ (y : World). y.sent) b.twins.same

      over : (y : Sent) → Among alone.sent y → Among joined_by.sent y
      over y g = subst (λ ys. Among ys y) (sym b.twins.sent)
          (over_all b.twins.more y (subst (λ ys. Among ys y) sent_alone g))

      -- what was taken of it was granted there
      granted_here : (t : Taken) → Among (taken_here (Some p)) t → IsHonest joined_by.hostile t.inc
          → IsGrantedIn joined_by w.rec.session t
      granted_here t new honest =
          let k = taken_placed w.rec (Some p) (Some q) (link_of x.message) x.message t new in
          let own : IsHonest alone.hostile t.inc = subst (λ hs. IsHonest hs t.inc)
          (sym (ap (λ (y : World). y.hostile) b.twins.same)) honest in
          let g : IsGranted alone (record t { place = Some q }) = held.taken_held (record t { place = Some q }) k.0
          own in
          let here : Some q ≡ Some g.place = g.placed in
          let place : q ≡ g.place = cc in
          let delivered_there : nth (messages alone.sent) q ≡ Some g.message =
          subst (λ i. nth (messages alone.sent) i ≡ Some g.message) (sym place) g.delivered in
          let message_there : nth (messages alone.sent) q ≡ Some x.message =
          placed_message xs b.twins.more alone.sent q x sent_alone there in
          let both : Some x.message ≡ Some g.message = sym message_there ∙ delivered_there in
          let same : x.message ≡ g.message = cc in
          granted_over alone joined_by w.rec.session t (Some q) p x.message over g same is k.1
          (placed_message w.sent b.twins.more joined_by.sent p x b.twins.sent at)

      arrived : a.rec.numbers ≡ w.rec.numbers → Goes w joined_by mine choice (event.Deliver p)
      arrived n = record {
        more = b.twins.more;
        sent = b.twins.sent;
        of = b.twins.of;
        numbers = n;
        holds = subst Holds b.twins.same (reset alone held);
        granted = λ t g honest. elim (among_join w.taken (taken_here (Some p)) t g) [
          | inl old ↦ inl (old, subst (λ hs. IsHonest hs t.inc) b.twins.hostile honest)
          | inr new ↦ inr (granted_here t new honest)
        ];
        files = b.twins.made;
      }

    here_goes : (v : World) → x.message.session ≡ w.rec.session
        → with_taken w (taken_here (Some p)) (delivered w x.message) ≡ Ok v → v.rec.numbers ≡ w.rec.numbers
        → Goes w v mine choice (event.Deliver p)
    here_goes v is ok n =
        let there = place_in w.rec.session w.sent p x at is in
        let own : IsOf w.rec.session x.message.session = h.in_session.sent x.message
        (sent_place xs there.0 x there.1) in
        let k = logged_is w (taken_here (Some p)) (delivered w x.message) v ok in
        let b = twins_delivered w mine xs x.message x.message.said k.0 h.in_session.holds own k.1 in
        subst (λ y. Goes w y mine choice (event.Deliver p)) k.2
        (arrived is there.0 there.1 k.0 b (ap (λ (y : World). y.rec.numbers) k.2 ∙ n))

    -- one of another session changes nothing
    unmoved : (answers : List EventAnswer) → Goes w (record w { answers = answers; taken = w.taken ++ [] }) mine
        choice (event.Deliver p)
    unmoved answers = record {
      more = [];
      sent = sym (append-nil w.sent);
      of = λ y g. absurd g;
      numbers = refl;
      holds = subst (λ ys. Holds (twin w mine ys)) (sym (append-nil xs)) h;
      granted = λ t g honest. inl (subst (λ ts. Among ts t) (append-nil w.taken) g, honest);
      files = refl;
    }

    stale_goes : (v : World) → (x.message.session == w.rec.session) ≡ false
        → session_of_call w.rec.session x.message x.message.said ≡ w.rec.session
        → with_taken w (taken_here (Some p)) (delivered w x.message) ≡ Ok v → Goes w v mine choice (event.Deliver p)
    stale_goes v apart is ok =
        (let k = stale_is w (Some p) x.message x.message.said v apart is ok in
        subst (λ y. Goes w y mine choice (event.Deliver p)) k.1
        (unmoved (w.answers ++ answered.Refused k.0 ∷ [])))

    message_goes : (v : World) → session_of_call w.rec.session x.message x.message.said ≡ w.rec.session
        → with_taken w (taken_here (Some p)) (delivered w x.message) ≡ Ok v
        → v.rec.numbers ≡ w.rec.numbers → Goes w v mine choice (event.Deliver p)
    message_goes v is ok n = elim (x.message.session == w.rec.session) as (λ b. (x.message.session == w.rec.session)
        ≡ b → Goes w v mine choice (event.Deliver p)) [
          | true ↦ (λ t. here_goes v (eqb-true x.message.session w.rec.session t) ok n)
          | false ↦ (λ t. stale_goes v t is ok)
        ] refl

  deliver_goes : (p : ℕ) (v : World) → session_at w.rec.session (nth w.sent p) ≡ w.rec.session
      → deliver w p (nth w.sent p) ≡ Ok v → v.rec.numbers ≡ w.rec.numbers
      → Goes w v mine choice (event.Deliver p)
  deliver_goes p v is ok n = (let k = deliver_is w p (nth w.sent p) v ok in
      message_goes p k.0 k.1 v (subst (λ y. session_at w.rec.session y ≡ w.rec.session) k.1 is) k.2 n)

  -- a message that is forged is at no place
  module _ (inc : ℕ) (m : Message) where
    abbrev told_of : Result Took ContainerFault
    told_of = on_message w.rec (link_to w inc) m

    forged_both : (i : Option Instance) (v : World) → forge w inc m i ≡ Ok v
        → forge (mirror w mine) inc m i ≡ Ok (forged_on (mirror w mine) inc m)
    forged_both None v e = cc
    forged_both (Some i) v e = at i.life e
      where
        at : (life : Life) → forged w inc m life ≡ Ok v → forged (mirror w mine) inc m life
            ≡ Ok (forged_on (mirror w mine) inc m)
        at Running k = refl
        at Ended k = refl
        at Reaped k = cc

    forged_goes : forge (mirror w mine) inc m (nth w.instances inc) ≡ Ok (forged_on (mirror w mine) inc m)
        → (forged_on w inc m).rec.numbers ≡ w.rec.numbers
        → Goes w (forged_on w inc m) mine choice (event.Forge inc m)
    forged_goes ok n =
        let b = twins_took w mine xs h.in_session.holds (Input.Told (link_to w inc) m) told_of refl in
        let u : World = forged_on (mirror w mine) inc m in
        let held : Holds u = held_happened (mirror w mine) choice (event.Forge inc m) u h tt ok in
        record {
          more = b.more;
          sent = b.sent;
          of = b.of;
          numbers = n;
          holds = subst Holds (ap (λ (y : World). record y { hostile = w.hostile ++ inc ∷ [] }) b.same) (reset u held);
          granted = λ t g honest. elim (among_join w.taken (taken_at w.rec None (link_to w inc) m) t g) [
            | inl old ↦ inl (old, honest_before w.hostile inc t.inc honest)
            | inr new ↦ absurd (nowhere t (taken_placed w.rec None None (link_to w inc) m t new).1
                (held.taken_held t new honest))
          ];
          files = b.made;
        }
      where
        nowhere : {u : World} (t : Taken) → t.place ≡ None → IsGranted u t → ⊥
        nowhere t none g = (let some = g.placed in cc)

    forge_goes : (v : World) → forge w inc m (nth w.instances inc) ≡ Ok v → v.rec.numbers ≡ w.rec.numbers
        → Goes w v mine choice (event.Forge inc m)
    forge_goes v ok n = (let is : v ≡ forged_on w inc m = forge_is w inc m (nth w.instances inc) v ok in
        subst (λ y. Goes w y mine choice (event.Forge inc m)) (sym is)
        (forged_goes (forged_both (nth w.instances inc) v ok) (ap (λ (y : World). y.rec.numbers) (sym is) ∙ n)))

  own_server : (inc : ℕ) (j : Instance) → nth w.instances inc ≡ Some j → IsOf w.rec.session j.core.session
  own_server inc j e = h.in_session.servers inc j e

  all_go : (e : Event) (v : World) → MakesDocument w choice e → session_of w e ≡ w.rec.session
      → happened w choice e ≡ Ok v → v.rec.numbers ≡ w.rec.numbers → Goes w v mine choice e
  all_go (event.Command c) v im is ok n = quiet_goes (event.Command c) v
      (landed _ _ v ok (twins_commanded w mine xs h.in_session.holds c (on_command w.rec c) refl)) im n
  all_go (event.Deliver p) v im is ok n = deliver_goes p v is ok n
  all_go (event.Forge inc m) v im is ok n = forge_goes inc m v ok n
  all_go (event.Crash s inc) v im is ok n =
      let i = nth w.instances inc in
      let b = twins_run w mine xs s (crash w inc i) (crash (mirror w mine) inc i) mine w.files v
      (λ k. twins_crash w mine xs inc i v k) ok in
      quiet_goes (event.Crash s inc) v b im n
  all_go (event.Reap inc) v im is ok n = quiet_goes (event.Reap inc) v
      (twins_reap w mine xs h.in_session.holds inc (nth w.instances inc) v ok) im n
  all_go (event.Done f) v im is ok n = quiet_goes (event.Done f) v
      (twins_done w mine xs h.in_session.holds f choice.file (Input.Committed f) (nth w.rec.frames f) (image w.rec f)
      (commit_done w.rec f) v refl ok) im n
  all_go (event.Fail f) v im is ok n = quiet_goes (event.Fail f) v
      (twins_only w mine xs h.in_session.holds (Input.Failed f) (commit_failed w.rec f) v refl ok) im n
  all_go (event.Resolve f true) v im is ok n =
      quiet_goes (event.Resolve f true) v (twins_done w mine xs h.in_session.holds f choice.file
      (Input.Resolved f true) (nth w.rec.frames f) (image w.rec f) (resolve w.rec f true) v refl ok) im n
  all_go (event.Resolve f false) v im is ok n = quiet_goes (event.Resolve f false) v
      (twins_only w mine xs h.in_session.holds (Input.Resolved f false) (resolve w.rec f false) v refl ok) im n
  all_go (event.Open name x y) v im is ok n =
      quiet_goes (event.Open name x y) v
      (landed _ _ v ok (twins_took w mine xs h.in_session.holds (Input.Opened name x y choice.given)
      (opened w.rec name x y choice.given) refl)) im n
  all_go (event.Scribble s inc act) v im is ok n =
      let i = nth w.instances inc in
      let b = twins_run w mine xs s (scribble w inc act i) (scribble (mirror w mine) inc act i) mine w.files v
      (λ k. twins_scribble w mine xs inc act i v (own_server inc) k) ok in
      quiet_goes (event.Scribble s inc act) v b im n
  all_go (event.Ask s inc act) v im is ok n =
      let i = nth w.instances inc in
      let b = twins_run w mine xs s (ask w inc act i) (ask (mirror w mine) inc act i) mine w.files v
      (λ k. twins_ask w mine xs inc act i v (own_server inc) k) ok in
      quiet_goes (event.Ask s inc act) v b im n

-- An event of the present run goes on as in the run by itself.
pub goes : (w : World) (mine : List File) (choice : Choice) (e : Event) (v : World) → Holds (mirror w mine)
    → MakesDocument w choice e → session_of w e ≡ w.rec.session → happened w choice e ≡ Ok v
    → Goes w v mine choice e
goes w mine choice e v h im is ok = all_go w mine choice h e v im is ok
    (numbers_by w choice e v h.agrees.steady h.numbers.recorded (steps w choice e v ok))
