-- Frames are made where there is room for one more, by new and by open; every other step leaves as many as there were.
use Rattle.std.proofs.Common.{◌≡◌, ◌≤◌, ◌<◌, ◌+◌, ◌==◌, ℕ, Bool, true, false, not, List, [], ◌∷◌, ◌++◌, length, map}
use Rattle.std.proofs.Common.{Option, Some, None, Result, Ok, Err, refl, sym, ◌∙◌, ap, subst, arith, if◌then◌else◌}
use Rattle.std.proofs.lemmas.List.{length-append, length-map}
use Rattle.std.specs.Prelude.{IfOk}
use Rattle.message_values.specs.Found.{find, nth}
use Rattle.message_values.specs.declared.answer.Answer.{Answer}
use Rattle.message_values.specs.declared.message.Message.{Message}
use Rattle.message_values.specs.declared.message.Said.{Said}
use Rattle.message_values.specs.declared.message.Said.TheVariants.{Call, Reply, Write, Ask}
use Rattle.message_values.specs.declared.operation.Operation.TheVariants.{UiDeactivate}
use Rattle.tree_streams.specs.Limits.{is_within}
use Rattle.object_state.specs.declared.verbs.Step.{Step}
use Rattle.tree_streams.specs.declared.stored.Stored.{Stored}
use Rattle.object_state.specs.Frames.{after}
use Rattle.object_state.specs.Grants as grant
use Rattle.object_state.specs.Grants.{Event}
use Rattle.container_model.specs.declared.server_link.ServerLink.{ServerLink}
use Rattle.container_model.specs.declared.answer.FrameDocument.{FrameDocument}
use Rattle.container_model.specs.declared.fault.ContainerFault.{ContainerFault}
use Rattle.container_model.specs.declared.fault.ContainerFault.TheVariants.{BadAnswer, NoSuch, Stale, WrongLink}
use Rattle.container_model.specs.declared.fault.ContainerFault.TheVariants.{WrongState}
use Rattle.container_model.specs.declared.grants.Tells.{Tells}
use Rattle.container_model.specs.declared.record.Frame.{Frame}
use Rattle.container_model.specs.declared.record.Link.{Link}
use Rattle.container_model.specs.declared.record.Object.{Object}
use Rattle.container_model.specs.Commands.{new_frame, save_made, saving, saving_frame, saving_on}
use Rattle.container_model.specs.Grants.{Requested, event_of, freed_claims, freed_frame, grant_of, moved, passed_to}
use Rattle.container_model.specs.Grants.{regranted, regranted_by, regranted_in}
use Rattle.container_model.specs.HandOffs.{hand_off_at, hand_off_each, hand_off_in, handed_off, handing_frame}
use Rattle.container_model.specs.HandOffs.{hands_off, is_answered, unasked}
use Rattle.container_model.specs.Inputs.{Input}
use Rattle.container_model.specs.Messages.{Replied, ask_found, ask_framed, is_held_by, is_open_to, is_on, on_ask}
use Rattle.container_model.specs.Messages.{on_message, on_reap, on_reply, on_write, reap_made, reaped, reaped_grants}
use Rattle.container_model.specs.Messages.{reaped_saving, relieved, replied_grant, replied_record, replied_saving}
use Rattle.container_model.specs.Messages.{reply_found, reply_link, reply_taken, said_to, write_found, write_link}
use Rattle.container_model.specs.Messages.{write_made}
use Rattle.container_model.specs.Opens.{opened_frame}
use Rattle.container_model.specs.Record.{MOST_FRAMES, Record, Took, acts, counts_none, is_alive, is_doubtful, is_linked}
use Rattle.container_model.specs.Record.{is_object, sends, unless, with_frame}
use Rattle.container_model.specs.Saves.{commit_at, commit_done, commit_doubted, commit_failed, commit_fitting}
use Rattle.container_model.specs.Saves.{committed_frame, doubted_frame, dropped_frame, failed_at, image, is_committing}
use Rattle.container_model.specs.Saves.{resolve, resolved_as, resolved_at, settle}
use Rattle.container_model.specs.Verbs.{claim_of, claimed, gives_up, holder_of, left, revoked_at}
use Rattle.container_steady.proofs.Opening.{is_opened}
use Rattle.container_steady.proofs.SteadyTells.{if_told}
use Rattle.container_steady.proofs.Taken.{command_made}
use Rattle.container_steady.specs.Made.{IsMade, makes_activation, makes_edit, makes_end, makes_fewer, makes_frame}
use Rattle.container_steady.specs.Made.{makes_nothing, makes_object, makes_save, makes_server, makes_steps}
use Rattle.container_steady.specs.Made.{makes_taking, run_by}
use Rattle.container_numbers.specs.FewFrames.{FewFrames, FewFramesAfter}
use Rattle.container_numbers.proofs.SoundMoves.{granted_frames, requested_frames}
use Rattle.container_numbers.proofs.SoundRooms.{length-set_nth}
use Rattle.container_numbers.proofs.SoundSaves.{settled_length}

-- ---- a record with as many frames as another
abbrev AsMany : Record → Record → Type 0
AsMany r u = length u.frames ≡ length r.frames

as_few : (r u : Record) → AsMany r u → FewFrames r → FewFrames u
as_few r u e h = subst (λ (n : ℕ). n ≤ MOST_FRAMES) (sym e) h

one_more : (frames : List Frame) (frame : Frame) → length frames < MOST_FRAMES
    → length (frames ++ frame ∷ []) ≤ MOST_FRAMES
one_more frames frame few = (let e = length-append frames (frame ∷ []) in omega arith)

-- ---- saves that go on
settled : (r : Record) → AsMany r (settle r)
settled r = settled_length 1 r.objects r.frames

handed : (r : Record) (f : ℕ) (frame : Option Frame) → AsMany r (hand_off_at r f frame).rec
handed r f None = refl
handed r f (Some frame) =
    if_told (λ (z : Requested). AsMany r z.rec) (hands_off f r.objects frame) (handed_off r f frame) (unasked r)
    (λ t. length-set_nth r.frames f (handing_frame frame)) (λ t. refl)

handed_in : (r : Record) (f : ℕ) → AsMany r (hand_off_in r f).rec
handed_in r f = handed r f (nth r.frames f)

each_handed : (f : ℕ) (frames : List Frame) (r : Record) → AsMany r (hand_off_each f frames r).rec
each_handed f [] r = refl
each_handed f (x ∷ xs) r = each_handed (f + 1) xs (hand_off_in r f).rec ∙ handed_in r f

-- ---- commands
saved : (r : Record) (f : ℕ) (frame : Frame) (raised : Option ℕ) (asked : Option (List ℕ))
    → AsMany r (save_made r f frame raised asked).rec
saved r f frame raised asked = settled (saving_on r f frame raised asked).rec
    ∙ (handed_in (saving r f frame raised asked) f ∙ length-set_nth r.frames f (saving_frame raised asked frame))

leaves : (r : Record) (frame : Frame) (o : Object) (l : Link) (ts : List Step) → AsMany r (left r frame o l ts)
leaves r frame o l ts =
    let next : Frame = moved frame (grant.Ask (claim_of o l (grant_of frame.ui.state))) in
    if_told (AsMany r) (gives_up ts) (with_frame r o.frame next) r (λ t. length-set_nth r.frames o.frame next)
    (λ t. refl)

claims : (r : Record) (frame : Frame) (o : Object) (l : Link) → AsMany r (claimed r frame o l)
claims r frame o l = length-set_nth r.frames o.frame (moved frame (grant.Ask (claim_of o l (r.last_g + 1))))

revokes : (r : Record) (holder : Option ℕ) → AsMany r (revoked_at r holder).rec
revokes r None = refl
revokes r (Some n) = ap (λ (fs : List Frame). length fs)
    (requested_frames r UiDeactivate (find (is_object n) r.objects))

made_few : (r : Record) (ns : List ℕ) (t : Took) → FewFrames r → IsMade r t ns → FewFrames t.rec
made_few r _ t h (makes_nothing made) = subst (λ (z : Took). FewFrames z.rec) made h
made_few r _ t h (makes_frame name w k new made) = subst (λ (z : Took). FewFrames z.rec) made
    (one_more r.frames (new_frame name w k) new.few)
made_few r _ t h (makes_object f kind area at made) = subst (λ (z : Took). FewFrames z.rec) made h
made_few r _ t h (makes_fewer n at passive made) = subst (λ (z : Took). FewFrames z.rec) made h
made_few r _ t h (makes_server started made) = subst (λ (z : Took). FewFrames z.rec) made h
made_few r _ t h (makes_end inc alive made) = subst (λ (z : Took). FewFrames z.rec) made h
made_few r _ t h (makes_activation n inc at run made) = subst (λ (z : Took). FewFrames z.rec) made h
made_few r _ t h (makes_edit n bytes go small has made) = subst (λ (z : Took). FewFrames z.rec) made h
made_few r _ t h (makes_save f raised name at raising other made) =
    as_few r t.rec (subst (λ (z : Took). AsMany r z.rec) made (saved r f at.frame raised name)) h
made_few r _ t h (makes_steps n go ts has row made) =
    as_few r t.rec (subst (λ (z : Took). AsMany r z.rec) made (leaves r go.at.frame go.at.object go.link ts)) h
made_few r _ t h (makes_taking n go ts taking made) =
    as_few r t.rec (subst (λ (z : Took). AsMany r z.rec) made
    (revokes (claimed r go.at.frame go.at.object go.link) (holder_of go.at.frame.ui.state)
    ∙ claims r go.at.frame go.at.object go.link)) h

-- ---- what a step gives, if it is taken
abbrev Keeps : Record → Result Took ContainerFault → Type 0
Keeps r told = IfOk told (λ (t : Took). AsMany r t.rec)

kept_few : (r : Record) (told : Result Took ContainerFault) (t : Took) → Keeps r told → FewFrames r → told ≡ Ok t
    → FewFrames t.rec
kept_few r told t k h e = as_few r t.rec (subst (Keeps r) e k) h

keeps_if : (r : Record) (b : Bool) (told : Result Took ContainerFault) (fault : ContainerFault) → Keeps r told
    → Keeps r (if b then told else Err fault)
keeps_if r true told fault k = k
keeps_if r false told fault k = tt

-- ---- a reply
regrants : (r : Record) (f : ℕ) (frame : Frame) (e : Option Event) → AsMany r (regranted_by r f frame e).rec
regrants r f frame None = refl
regrants r f frame (Some e) =
    ap (λ (fs : List Frame). length fs) (granted_frames (passed_to frame.ui.state (after frame.ui e).state)
    (with_frame r f (moved frame e))) ∙ length-set_nth r.frames f (moved frame e)

regrants_in : (r : Record) (f : ℕ) (tells : Tells) (frame : Option Frame) → AsMany r (regranted_in r f tells frame).rec
regrants_in r f tells None = refl
regrants_in r f tells (Some frame) = regrants r f frame (event_of frame.ui.state tells)

regrants_by : (r : Record) (f : ℕ) (tells : Option Tells) → AsMany r (regranted r f tells).rec
regrants_by r f None = refl
regrants_by r f (Some tells) = regrants_in r f tells (nth r.frames f)

replies : (r : Record) (inc act : ℕ) (o : Object) (res : Result Replied ContainerFault)
    → Keeps r (reply_taken r inc act o res)
replies r inc act o (Err fault) = tt
replies r inc act o (Ok re) =
    let next : Record = (replied_grant r inc act o re).rec in
    let many : AsMany r next = regrants_by (replied_record r inc act o re) o.frame re.grant in
    settled (replied_saving r inc act o re).rec
    ∙ if_told (λ (z : Requested). AsMany r z.rec) (is_answered o.link re.link) (hand_off_in next o.frame)
    (unasked next) (λ b. handed_in next o.frame ∙ many) (λ b. many)

replies_found : (r : Record) (inc act n : ℕ) (answer : Answer) (o : Option Object)
    → Keeps r (reply_found r inc act n answer o)
replies_found r inc act n answer None = tt
replies_found r inc act n answer (Some o) = replies r inc act o (reply_link n answer o.link)

replies_on : (r : Record) (inc act n : ℕ) (answer : Answer) → Keeps r (on_reply r inc act n answer)
replies_on r inc act n answer = keeps_if r (is_alive r inc)
    (reply_found r inc act n answer (find (is_linked inc act) r.objects)) Stale
    (replies_found r inc act n answer (find (is_linked inc act) r.objects))

-- ---- a write
writes : (r : Record) (inc act s w : ℕ) (content : Stored) (o : Object) (link : Option Link)
    → Keeps r (write_link r inc act s w content o link)
writes r inc act s w content o None = tt
writes r inc act s w content o (Some l) =
    keeps_if r (is_open_to l s w) (if is_within content then Ok (write_made r inc act o l w content)
    else Err BadAnswer) Stale
    (keeps_if r (is_within content) (Ok (write_made r inc act o l w content)) BadAnswer refl)

writes_found : (r : Record) (inc act s w : ℕ) (content : Stored) (o : Option Object)
    → Keeps r (write_found r inc act s w content o)
writes_found r inc act s w content None = tt
writes_found r inc act s w content (Some o) = writes r inc act s w content o o.link

writes_on : (r : Record) (inc act s w : ℕ) (content : Stored) → Keeps r (on_write r inc act s w content)
writes_on r inc act s w content = keeps_if r (is_alive r inc)
    (write_found r inc act s w content (find (is_linked inc act) r.objects)) Stale
    (writes_found r inc act s w content (find (is_linked inc act) r.objects))

-- ---- an ask
relieves : (r : Record) (o : Object) (act g : ℕ) (frame : Frame) → AsMany r (relieved r o act g frame).rec
relieves r o act g frame =
    let next : Frame = moved frame (grant.Ask (record { object = o.number; act = act; g = g })) in
    ap (λ (fs : List Frame). length fs) (requested_frames (with_frame r o.frame next) UiDeactivate
    (find (is_object o.number) r.objects)) ∙ length-set_nth r.frames o.frame next

asks : (r : Record) (act g : ℕ) (o : Object) (frame : Option Frame) → Keeps r (ask_framed r o act g frame)
asks r act g o None = tt
asks r act g o (Some frame) = keeps_if r (is_held_by act g frame.ui.state)
    (Ok (counts_none (relieved r o act g frame).rec (acts (sends (relieved r o act g frame).sent)))) Stale
    (relieves r o act g frame)

asks_found : (r : Record) (act g : ℕ) (o : Option Object) → Keeps r (ask_found r act g o)
asks_found r act g None = tt
asks_found r act g (Some o) = asks r act g o (nth r.frames o.frame)

asks_on : (r : Record) (inc act g : ℕ) → Keeps r (on_ask r inc act g)
asks_on r inc act g = keeps_if r (is_alive r inc) (ask_found r act g (find (is_linked inc act) r.objects)) Stale
    (asks_found r act g (find (is_linked inc act) r.objects))

said : (r : Record) (m : Said) → Keeps r (said_to r m)
said r (Call inc act n op) = tt
said r (Reply inc act n answer) = replies_on r inc act n answer
said r (Write inc act s w content) = writes_on r inc act s w content
said r (Ask inc act g) = asks_on r inc act g

refuses : (r : Record) (b : Bool) (fault : ContainerFault) (next : Result Took ContainerFault) → Keeps r next
    → Keeps r (unless b fault next)
refuses r true fault next h = tt
refuses r false fault next h = h

messages : (r : Record) (link : ServerLink) (m : Message) → Keeps r (on_message r link m)
messages r link m = refuses r (not (is_on link m)) WrongLink
    (unless (not (link.session == r.session)) Stale (said_to r m.said))
    (refuses r (not (link.session == r.session)) Stale (said_to r m.said) (said r m.said))

-- ---- the end of a server
reaps : (r : Record) (inc : ℕ) → Keeps r (on_reap r inc)
reaps r inc =
    let free : Record = record (reaped r inc) { frames = map (freed_frame inc r.objects) r.frames } in
    let granted : Record = (reaped_grants r inc).rec in
    let many : AsMany r granted = ap (λ (fs : List Frame). length fs)
    (granted_frames (freed_claims inc r.objects r.frames) free)
    ∙ length-map r.frames (freed_frame inc r.objects) in
    keeps_if r (is_alive r inc) (Ok (reap_made r inc)) NoSuch
    (settled (reaped_saving r inc).rec ∙ (each_handed 1 granted.frames granted ∙ many))

-- ---- commits
fits : (r : Record) (f : ℕ) (frame : Frame) (parts : Result FrameDocument ContainerFault)
    → Keeps r (commit_fitting r f frame parts)
fits r f frame (Err fault) = tt
fits r f frame (Ok parts) = length-set_nth r.frames f (committed_frame frame)

commits : (r : Record) (f : ℕ) (frame : Option Frame) → Keeps r (commit_at r f frame)
commits r f None = tt
commits r f (Some frame) = keeps_if r (is_committing frame.phase) (commit_fitting r f frame (image r f)) WrongState
    (fits r f frame (image r f))

fails : (r : Record) (f : ℕ) (frame : Option Frame) → Keeps r (failed_at r f frame)
fails r f None = tt
fails r f (Some frame) = keeps_if r (is_committing frame.phase) (Ok (commit_doubted r f frame)) WrongState
    (length-set_nth r.frames f (doubted_frame frame))

resolves_as : (r : Record) (f : ℕ) (frame : Frame) (is_kept : Bool) → Keeps r (resolved_as r f frame is_kept)
resolves_as r f frame true = fits r f frame (image r f)
resolves_as r f frame false = length-set_nth r.frames f (dropped_frame frame)

resolves : (r : Record) (f : ℕ) (is_kept : Bool) (frame : Option Frame) → Keeps r (resolved_at r f is_kept frame)
resolves r f is_kept None = tt
resolves r f is_kept (Some frame) = keeps_if r (is_doubtful frame.phase) (resolved_as r f frame is_kept) WrongState
    (resolves_as r f frame is_kept)

-- ---- whatever is given
pub few_frames_after : FewFramesAfter
few_frames_after r (Input.Ordered c) t h e = made_few r (run_by c) t h (command_made r c t e)
few_frames_after r (Input.Told link m) t h e = kept_few r (on_message r link m) t (messages r link m) h e
few_frames_after r (Input.Reaped inc) t h e = kept_few r (on_reap r inc) t (reaps r inc) h e
few_frames_after r (Input.Committed f) t h e = kept_few r (commit_done r f) t (commits r f (nth r.frames f)) h e
few_frames_after r (Input.Failed f) t h e = kept_few r (commit_failed r f) t (fails r f (nth r.frames f)) h e
few_frames_after r (Input.Resolved f is_kept) t h e = kept_few r (resolve r f is_kept) t
    (resolves r f is_kept (nth r.frames f)) h e
few_frames_after r (Input.Opened name w k given) t h e =
    (let o = is_opened r name w k given t e in subst (λ (z : Took). FewFrames z.rec) o.made
    (one_more r.frames (opened_frame name w k o.d.session) o.few))
