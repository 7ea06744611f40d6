-- Each step that is taken leaves the frames, makes or opens one more, or counts the commit of one.
use Rattle.std.proofs.Common.{◌≡◌, ◌==◌, ◌+◌, ℕ, Bool, true, false, not, List, Option, Some, None, Result, Ok, Err}
use Rattle.std.proofs.Common.{refl, ◌∙◌, ap, inl, subst, if◌then◌else◌}
use Rattle.std.specs.Prelude.{IfOk}
use Rattle.message_values.specs.Found.{find, nth}
use Rattle.message_values.specs.declared.answer.Answer.{Answer}
use Rattle.message_values.specs.declared.message.Message.{Message}
use Rattle.message_values.specs.declared.message.Said.{Said}
use Rattle.message_values.specs.declared.message.Said.TheVariants.{Call, Reply, Write, Ask}
use Rattle.tree_streams.specs.Limits.{is_within}
use Rattle.object_state.specs.declared.verbs.Step.{Step}
use Rattle.tree_streams.specs.declared.stored.Stored.{Stored}
use Rattle.container_model.specs.declared.command.Command.{Command}
use Rattle.container_model.specs.declared.command.Command.TheVariants as command
use Rattle.container_model.specs.declared.fault.ContainerFault.{ContainerFault}
use Rattle.container_model.specs.declared.fault.ContainerFault.TheVariants.{BadAnswer, NoSuch, Stale, WrongLink}
use Rattle.container_model.specs.declared.record.Frame.{Frame}
use Rattle.container_model.specs.declared.record.Link.{Link}
use Rattle.container_model.specs.declared.record.Object.{Object}
use Rattle.container_model.specs.declared.server_link.ServerLink.{ServerLink}
use Rattle.container_model.specs.Inputs.{Input}
use Rattle.container_model.specs.Messages.{Replied, ask_found, ask_framed, is_held_by, is_on, is_open_to, on_message}
use Rattle.container_model.specs.Messages.{on_reap, reap_made, relieved, reply_found, reply_link, reply_taken, said_to}
use Rattle.container_model.specs.Messages.{write_found, write_link, write_made}
use Rattle.container_model.specs.Opens.{Given, opened}
use Rattle.container_model.specs.Record.{Record, Took, acts, counts_none, is_alive, is_linked, sends, unless}
use Rattle.container_model.specs.Saves.{commit_at, commit_failed, doubted_frame, dropped_frame, resolve, resolved_at}
use Rattle.container_steady.specs.Taken.{IsRunningAt, IsStepped, IsTakenAs, steps_leave, steps_nothing, steps_take}
use Rattle.container_steady.specs.Taken.{as_close, as_delete, as_edit, as_insert, as_kill, as_new, as_run, as_save}
use Rattle.container_steady.specs.Taken.{as_save_as, as_session, as_start, as_verb}
use Rattle.container_steady.proofs.Opening.{is_opened}
use Rattle.container_steady.proofs.Settling.{done_commits, is_dropped, is_failed, kept_commits, not_idle}
use Rattle.container_steady.proofs.SteadyTells.{if_told}
use Rattle.container_steady.proofs.Taken.{command_taken}
use Rattle.container_frames.specs.Frames.{FramesGo, StepsMoveFrames, frame_counted, frame_made, frame_opened}
use Rattle.container_frames.specs.Frames.{frames_stay}
use Rattle.container_frames.proofs.Stays.{doubted_stays, dropped_stays, frames_same, frames_set}
use Rattle.container_frames.proofs.Moves.{RecordStays, leaves, reaps, relieves, replies, saves, takes}

-- ---- what a step makes, where its frames stay
stays : (r : Record) (x : Input) (u t : Took) → u ≡ t → RecordStays r.session r u.rec → FramesGo r x t
stays r x u t made h = subst (FramesGo r x) made (frames_stay h.frames h.session)

-- it doesn't touch them
still : (r : Record) (x : Input) (u t : Took) → u ≡ t → u.rec.frames ≡ r.frames → u.rec.session ≡ r.session
    → FramesGo r x t
still r x u t made frames session =
    (let h : RecordStays r.session r u.rec = record {
      frames = rw frames (frames_same r.session r.frames);
      session = session;
    } in stays r x u t made h)

-- ---- commands
stepped : (r : Record) (n : ℕ) (go : IsRunningAt r n) (x : Input) (ts : List Step) (t : Took)
    → IsStepped r go.at.frame go.at.object go.link ts t → FramesGo r x t
stepped r n go x ts t (steps_nothing none made) = still r x _ t made refl refl
stepped r n go x ts t (steps_leave has free made) =
    stays r x _ t made (leaves r.session r go.at.frame go.at.object go.link ts go.at.inside)
stepped r n go x ts t (steps_take has taken last holder made) =
    stays r x _ t made (takes r.session r go.at.frame go.at.object go.link ts go.at.inside)

ordered : (r : Record) (c : Command) (t : Took) → IsTakenAs r t c → FramesGo r (Input.Ordered c) t
ordered r _ t (as_new name w h new made) = subst (FramesGo r (Input.Ordered (command.New name w h))) made
    (frame_made name w h refl refl refl)
ordered r _ t (as_insert f kind area at made) = still r (Input.Ordered (command.Insert f kind area)) _ t made refl refl
ordered r _ t (as_start started made) = still r (Input.Ordered command.Start) _ t made refl refl
ordered r _ t (as_run n inc at run made) = still r (Input.Ordered (command.Run n inc)) _ t made refl refl
ordered r _ t (as_edit n bytes go small has made) = still r (Input.Ordered (command.Edit n bytes)) _ t made refl refl
ordered r _ t (as_session at raised made) = stays r (Input.Ordered command.Session) _ t made
    (saves r.session r 1 at.frame (Some (at.frame.session + 1)) None at.there (λ none unset. cc))
ordered r _ t (as_save f at there made) = stays r (Input.Ordered (command.Save f)) _ t made
    (saves r.session r f at.frame None None at.there (λ none unset. there none))
ordered r _ t (as_save_as f name at there apart own made) = stays r (Input.Ordered (command.SaveAs f name)) _ t made
    (saves r.session r f at.frame None (Some name) at.there (λ none unset. there none))
ordered r _ t (as_delete n at passive made) = still r (Input.Ordered (command.Delete n)) _ t made refl refl
ordered r _ t (as_kill inc alive made) = still r (Input.Ordered (command.Kill inc)) _ t made refl refl
ordered r _ t (as_close n option go ts has row made) = stays r (Input.Ordered (command.Close n option)) _ t made
    (leaves r.session r go.at.frame go.at.object go.link ts go.at.inside)
ordered r _ t (as_verb n number go verb) = stepped r n go (Input.Ordered (command.Verb n number)) verb.ts t verb.stepped

-- ---- messages
abbrev Keeps : Record → Result Took ContainerFault → Type 0
Keeps r told = IfOk told (λ t. RecordStays r.session r t.rec)

keeps_if : (r : Record) (b : Bool) (told : Result Took ContainerFault) (fault : ContainerFault) → Keeps r told
    → Keeps r (if b then told else Err fault)
keeps_if r b told fault k = if_told (Keeps r) b told (Err fault) (λ t. k) (λ t. tt)

refuses : (r : Record) (b : Bool) (fault : ContainerFault) (next : Result Took ContainerFault) → Keeps r next
    → Keeps r (unless b fault next)
refuses r b fault next k = if_told (Keeps r) b (Err fault) next (λ t. tt) (λ t. k)

replies_taken : (r : Record) (inc act : ℕ) (o : Object) (res : Result Replied ContainerFault)
    → Keeps r (reply_taken r inc act o res)
replies_taken r inc act o (Err fault) = tt
replies_taken r inc act o (Ok re) = replies r.session r inc act o re

replies_found : (r : Record) (inc act n : ℕ) (answer : Answer) (o : Option Object)
    → Keeps r (reply_found r inc act n answer o)
replies_found r inc act n answer None = tt
replies_found r inc act n answer (Some o) = replies_taken r inc act o (reply_link n answer o.link)

writes : (r : Record) (inc act g w : ℕ) (content : Stored) (o : Object) (link : Option Link)
    → Keeps r (write_link r inc act g w content o link)
writes r inc act g w content o None = tt
writes r inc act g w content o (Some l) =
    let made : Result Took ContainerFault = Ok (write_made r inc act o l w content) in
    keeps_if r (is_open_to l g w) (if is_within content then made else Err BadAnswer) Stale
    (keeps_if r (is_within content) made BadAnswer (record { frames = frames_same r.session r.frames; session = refl }))

writes_found : (r : Record) (inc act g w : ℕ) (content : Stored) (o : Option Object)
    → Keeps r (write_found r inc act g w content o)
writes_found r inc act g w content None = tt
writes_found r inc act g w content (Some o) = writes r inc act g w content o o.link

relieves_in : (r : Record) (act g : ℕ) (o : Object) (frame : Option Frame) → nth r.frames o.frame ≡ frame
    → Keeps r (ask_framed r o act g frame)
relieves_in r act g o None at = tt
relieves_in r act g o (Some frame) at =
    keeps_if r (is_held_by act g frame.ui.state)
    (Ok (counts_none (relieved r o act g frame).rec (acts (sends (relieved r o act g frame).sent)))) Stale
    (relieves r.session r o act g frame at)

relieves_found : (r : Record) (act g : ℕ) (o : Option Object) → Keeps r (ask_found r act g o)
relieves_found r act g None = tt
relieves_found r act g (Some o) = relieves_in r act g o (nth r.frames o.frame) refl

said : (r : Record) (m : Said) → Keeps r (said_to r m)
said r (Call inc act n op) = tt
said r (Reply inc act n answer) =
    (let found = find (is_linked inc act) r.objects in
    keeps_if r (is_alive r inc) (reply_found r inc act n answer found) Stale
    (replies_found r inc act n answer found))
said r (Write inc act g w content) =
    (let found = find (is_linked inc act) r.objects in
    keeps_if r (is_alive r inc) (write_found r inc act g w content found) Stale
    (writes_found r inc act g w content found))
said r (Ask inc act g) = (let found = find (is_linked inc act) r.objects in
    keeps_if r (is_alive r inc) (ask_found r act g found) Stale (relieves_found r act g found))

messages : (r : Record) (link : ServerLink) (m : Message) → Keeps r (on_message r link m)
messages r link m =
    let next = unless (not (link.session == r.session)) Stale (said_to r m.said) in
    refuses r (not (is_on link m)) WrongLink next
    (refuses r (not (link.session == r.session)) Stale (said_to r m.said) (said r m.said))

-- the end of a server
reaps_in : (r : Record) (inc : ℕ) → Keeps r (on_reap r inc)
reaps_in r inc = keeps_if r (is_alive r inc) (Ok (reap_made r inc)) NoSuch (reaps r.session r inc)

kept : (r : Record) (x : Input) (told : Result Took ContainerFault) (t : Took) → Keeps r told → told ≡ Ok t
    → FramesGo r x t
kept r x told t k e = (let h : RecordStays r.session r t.rec = subst (Keeps r) e k in frames_stay h.frames h.session)

-- ---- commits
failed : (r : Record) (f : ℕ) (t : Took) → commit_failed r f ≡ Ok t → FramesGo r (Input.Failed f) t
failed r f t e =
    let h = is_failed r f t e in
    let busy = not_idle h.frame.phase (inl h.phase) in
    stays r (Input.Failed f) _ t h.made
    (record {
      frames = frames_set r.session r.frames f h.frame (doubted_frame h.frame) h.there
          (doubted_stays r.session h.frame busy);
      session = refl;
    })

dropped : (r : Record) (f : ℕ) (t : Took) → resolve r f false ≡ Ok t → FramesGo r (Input.Resolved f false) t
dropped r f t e =
    let h = is_dropped r f t e in
    stays r (Input.Resolved f false) _ t h.made
    (record {
      frames = frames_set r.session r.frames f h.frame (dropped_frame h.frame) h.there
          (dropped_stays r.session h.frame);
      session = refl;
    })

done_in : (r : Record) (f : ℕ) (found : Option Frame) (t : Took) → nth r.frames f ≡ found
    → commit_at r f found ≡ Ok t → FramesGo r (Input.Committed f) t
done_in r f None t at e = cc
done_in r f (Some frame) t at e = (let c = done_commits r f frame at t (ap (commit_at r f) at ∙ e) in
    frame_counted f frame refl at (not_idle frame.phase c.0) c.1)

kept_in : (r : Record) (f : ℕ) (found : Option Frame) (t : Took) → nth r.frames f ≡ found
    → resolved_at r f true found ≡ Ok t → FramesGo r (Input.Resolved f true) t
kept_in r f None t at e = cc
kept_in r f (Some frame) t at e = (let c = kept_commits r f frame at t (ap (resolved_at r f true) at ∙ e) in
    frame_counted f frame refl at (not_idle frame.phase c.0) c.1)

-- ---- a file that is opened
opened_one : (r : Record) (name : List ℕ) (w h : ℕ) (given : Given) (t : Took) → opened r name w h given ≡ Ok t
    → FramesGo r (Input.Opened name w h given) t
opened_one r name w h given t e =
    let o = is_opened r name w h given t e in
    subst (FramesGo r (Input.Opened name w h given)) o.made
    (frame_opened name w h o.d (ap (Input.Opened name w h) o.holds) refl refl)

-- ---- each input
pub steps_move_frames : StepsMoveFrames
steps_move_frames r (Input.Ordered c) t e = ordered r c t (command_taken r c t e)
steps_move_frames r (Input.Told link m) t e = kept r (Input.Told link m) (on_message r link m) t (messages r link m) e
steps_move_frames r (Input.Reaped inc) t e = kept r (Input.Reaped inc) (on_reap r inc) t (reaps_in r inc) e
steps_move_frames r (Input.Committed f) t e = done_in r f (nth r.frames f) t refl e
steps_move_frames r (Input.Failed f) t e = failed r f t e
steps_move_frames r (Input.Resolved f true) t e = kept_in r f (nth r.frames f) t refl e
steps_move_frames r (Input.Resolved f false) t e = dropped r f t e
steps_move_frames r (Input.Opened name w h given) t e = opened_one r name w h given t e
