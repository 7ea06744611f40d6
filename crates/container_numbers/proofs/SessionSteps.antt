-- Steps that count no commit leave a container's session, and all of it in this session: each changes links by
-- functions that keep theirs, and makes none of another.
use Rattle.std.proofs.Common.{◌≡◌, ◌≢◌, ◌==◌, ◌+◌, ℕ, zero, suc, Bool, true, false, not, List, [], ◌∷◌, ◌++◌, length}
use Rattle.std.proofs.Common.{map, Option, Some, None, Result, Ok, Err, slice_get, refl, sym, ◌∙◌, ap, subst}
use Rattle.std.proofs.Common.{if◌then◌else◌}
use Rattle.std.specs.Prelude.{IfOk, IfSome}
use Rattle.message_values.specs.Found.{find, nth, put, set_nth}
use Rattle.message_values.specs.declared.answer.Answer.{Answer}
use Rattle.message_values.specs.declared.message.Message.{Message}
use Rattle.message_values.specs.declared.message.Said.{Said}
use Rattle.message_values.specs.declared.message.Said.TheVariants.{Call, Reply, Write, Ask}
use Rattle.message_values.specs.declared.operation.Operation.{Operation}
use Rattle.message_values.specs.declared.operation.Operation.TheVariants.{Edit, HandsOff, Save, SaveDropped, UiActivate}
use Rattle.message_values.specs.declared.operation.Operation.TheVariants.{UiDeactivate}
use Rattle.ole_model.specs.declared.object.DocObject.{DocObject}
use Rattle.tree_streams.specs.Limits.{is_within}
use Rattle.object_state.specs.declared.verbs.Step.{Step}
use Rattle.tree_streams.specs.declared.stored.Stored.{Stored}
use Rattle.object_state.specs.Frames.{after}
use Rattle.object_state.specs.Grants as grant
use Rattle.object_state.specs.Grants.{Event}
use Rattle.object_state.specs.declared.grant_states.Claim.{Claim}
use Rattle.container_model.specs.declared.fault.ContainerFault.{ContainerFault}
use Rattle.container_model.specs.declared.fault.ContainerFault.TheVariants.{BadAnswer, NoSuch, Stale, WrongLink}
use Rattle.container_model.specs.declared.fault.ContainerFault.TheVariants.{WrongState}
use Rattle.container_model.specs.declared.grants.Tells.{Tells}
use Rattle.container_model.specs.declared.record.Frame.{Frame}
use Rattle.container_model.specs.declared.record.Link.{Link}
use Rattle.container_model.specs.declared.record.Object.{Object}
use Rattle.container_model.specs.declared.server_link.ServerLink.{ServerLink}
use Rattle.container_model.specs.Commands.{begun_link, first_operation, kind_of, new_frame, new_object, save_made}
use Rattle.container_model.specs.Commands.{saving, saving_frame, saving_on}
use Rattle.container_model.specs.Grants.{Requested, event_of, freed_claims, freed_frame, grant_each, grant_of, moved}
use Rattle.container_model.specs.Grants.{passed_to, regranted, regranted_by, regranted_in, request, requested}
use Rattle.container_model.specs.HandOffs.{hand_off_at, hand_off_each, hand_off_in, handed_off, handing_frame}
use Rattle.container_model.specs.HandOffs.{hands_off, is_answered, unasked}
use Rattle.container_model.specs.Messages.{Replied, ask_found, ask_framed, is_held_by, is_on, is_open_to, next_sent}
use Rattle.container_model.specs.Messages.{on_message, on_reap, on_reply, on_write, reap_made, reaped, reaped_grants}
use Rattle.container_model.specs.Messages.{reaped_object, reaped_saving, relieved, replied_grant, replied_object}
use Rattle.container_model.specs.Messages.{replied_record, replied_saving, reply_found, reply_link, reply_taken}
use Rattle.container_model.specs.Messages.{said_to, write_found, write_link, write_made, written_object}
use Rattle.container_model.specs.Opens.{Given, opened, opened_frame, opened_objects}
use Rattle.container_model.specs.Record.{Record, Took, acts, ask, asked_all, asked_link, asked_object, counts_none}
use Rattle.container_model.specs.Record.{is_alive, is_doubtful, is_linked, is_object, is_unreaped, sends, unless}
use Rattle.container_model.specs.Record.{with_frame}
use Rattle.container_model.specs.Saves.{commit_doubted, commit_failed, doubted_frame, dropped_frame, dropped_object}
use Rattle.container_model.specs.Saves.{failed_at, is_committing, resolve, resolved_at, save_dropped, settle}
use Rattle.container_model.specs.Verbs.{claim_of, claimed, gives_up, holder_of, leaving_made, left, operation_of}
use Rattle.container_model.specs.Verbs.{revoked, revoked_at, stepped_link, steps_now, taking_made}
use Rattle.container_steady.specs.Made.{IsMade, IsRaising, makes_activation, makes_edit, makes_end, makes_fewer}
use Rattle.container_steady.specs.Made.{makes_frame, makes_nothing, makes_object, makes_save, makes_server, makes_steps}
use Rattle.container_steady.specs.Made.{makes_taking}
use Rattle.container_steady.specs.Taken.{IsReadyAt, IsRunningAt}
use Rattle.container_steady.proofs.Opening.{is_opened}
use Rattle.container_steady.proofs.SteadyCounts.{each_without}
use Rattle.container_steady.proofs.SteadyTells.{if_told}
use Rattle.container_queues.proofs.SteadyLookups.{each_append, each_found, each_map, each_put}
use Rattle.container_numbers.specs.Sessions.{IsInSession, IsOf, MayRaise}
use Rattle.container_numbers.proofs.SessionFrames.{AllRaise, RaisesIn, if_raises, raise_append, raise_map, raise_set}
use Rattle.container_numbers.proofs.SessionFrames.{raise_settle, raises_at}
use Rattle.container_numbers.proofs.SessionLinks.{ActsIn, AllIn, In, RepliedIn, SentIn, acts_in, answers_in, asks}
use Rattle.container_numbers.proofs.SessionLinks.{asks_all, asks_each, asks_link, asks_object, asks_sent, calls_in}
use Rattle.container_numbers.proofs.SessionLinks.{drops, each_after, ends, if_found, next_in, sends_in, sent_after}

-- ---- a record, what is asked of its objects, and what a step gives
-- its session, its links, its servers and its frames
abbrev pub HoldsIn : ℕ → Record → Type 0
HoldsIn s r = (r.session ≡ s) × AllIn s r.objects × (s ≡ 0 → r.servers ≡ []) × AllRaise s r.frames

abbrev RequestsIn : ℕ → Requested → Type 0
RequestsIn s z = HoldsIn s z.rec × SentIn s z.sent

abbrev pub StaysIn : ℕ → Took → Type 0
StaysIn s t = HoldsIn s t.rec × ActsIn s t.answer.actions

abbrev pub KeepsIn : ℕ → Result Took ContainerFault → Type 0
KeepsIn s told = IfOk told (StaysIn s)

keeps_if : (s : ℕ) (b : Bool) (told : Result Took ContainerFault) (fault : ContainerFault) → KeepsIn s told
    → KeepsIn s (if b then told else Err fault)
keeps_if s b told fault k = if_told (KeepsIn s) b told (Err fault) (λ t. k) (λ t. tt)

-- ---- objects that are asked by their numbers
requests_found : (s : ℕ) (r : Record) (op : Operation) (o : Option Object) → HoldsIn s r → IfSome o (In s)
    → RequestsIn s (requested r op o)
requests_found s r op None h k = (h, tt)
requests_found s r op (Some o) h k = (
  (
    h.0,
    each_put (In s) (is_object o.number) (record o { link = asked_link op o.link }) r.objects h.1
        (asks_link s op o.link k),
    h.2,
    h.3,
  ),
  asks_sent s op o.link k,
)

requests : (s : ℕ) (r : Record) (n : ℕ) (op : Operation) → HoldsIn s r → RequestsIn s (request r n op)
requests s r n op h = requests_found s r op (find (is_object n) r.objects) h
    (if_found (In s) (is_object n) r.objects h.1)

grants_each : (s : ℕ) (r : Record) (claims : List Claim) → HoldsIn s r → RequestsIn s (grant_each r claims)
grants_each s r [] h = (h, tt)
grants_each s r (c ∷ cs) h =
    let first = request r c.object (UiActivate c.g) in
    let asked : RequestsIn s first = requests s r c.object (UiActivate c.g) h in
    let rest : RequestsIn s (grant_each first.rec cs) = grants_each s first.rec cs asked.0 in
    (rest.0, sent_after s first.sent (grant_each first.rec cs).sent asked.1 rest.1)

-- ---- frames that hand off
hands : (s : ℕ) (r : Record) (f : ℕ) (frame : Option Frame) → HoldsIn s r → IfSome frame (RaisesIn s f)
    → RequestsIn s (hand_off_at r f frame)
hands s r f None h k = (h, tt)
hands s r f (Some frame) h k = if_told (RequestsIn s) (hands_off f r.objects frame) (handed_off r f frame) (unasked r)
    (λ t. (
      (
        h.0,
        each_map (In s) (In s) (asked_object f HandsOff) r.objects (asks_object s f HandsOff) h.1,
        h.2,
        raise_set s r.frames f (handing_frame frame) h.3 k,
      ),
      asks_all s f HandsOff r.objects h.1,
    ))
    (λ t. (h, tt))

hands_in : (s : ℕ) (r : Record) (f : ℕ) → HoldsIn s r → RequestsIn s (hand_off_in r f)
hands_in s r f h = hands s r f (nth r.frames f) h (if_raises s r.frames f h.3)

hands_each : (s f : ℕ) (frames : List Frame) (r : Record) → HoldsIn s r → RequestsIn s (hand_off_each f frames r)
hands_each s f [] r h = (h, tt)
hands_each s f (x ∷ xs) r h =
    let first = hand_off_in r f in
    let asked : RequestsIn s first = hands_in s r f h in
    let rest : RequestsIn s (hand_off_each (f + 1) xs first.rec) = hands_each s (f + 1) xs first.rec asked.0 in
    (rest.0, sent_after s first.sent (hand_off_each (f + 1) xs first.rec).sent asked.1 rest.1)

-- ---- commands
runs_in : (s : ℕ) (r : Record) (n : ℕ) (go : IsRunningAt r n) → HoldsIn s r → IsOf s go.link.session
runs_in s r n go h = subst (IsInSession s) go.linked
    (each_found (In s) (is_object n) r.objects go.at.object h.1 go.at.found)

-- what a save raises, if anything
raises_by : (s : ℕ) (r : Record) (f : ℕ) (frame : Frame) (name : Option (List ℕ)) (raised : Option ℕ)
    → r.session ≡ s → IsRaising r f frame name raised → MayRaise s f frame raised
raises_by s r f frame name None e k = tt
raises_by s r f frame name (Some n) e k = (sym e ∙ k.2.none, k.0, k.3)

settles_in : (s : ℕ) (r : Record) → HoldsIn s r → HoldsIn s (settle r)
settles_in s r h = (h.0, h.1, h.2, raise_settle s r.objects r.frames h.3)

saves : (s : ℕ) (r : Record) (f : ℕ) (frame : Frame) (raised : Option ℕ) (asked : Option (List ℕ)) → HoldsIn s r
    → MayRaise s f frame raised → StaysIn s (save_made r f frame raised asked)
saves s r f frame raised asked h k =
    let op : Operation = Save (frame.k + 1) in
    let next : Requested = saving_on r f frame raised asked in
    let on : RequestsIn s next = hands_in s (saving r f frame raised asked) f (
      h.0,
      each_map (In s) (In s) (asked_object f op) r.objects (asks_object s f op) h.1,
      h.2,
      raise_set s r.frames f
          (saving_frame raised asked frame) h.3 k,
    ) in (
      settles_in s next.rec on.0,
      acts_in s (asked_all f op r.objects ++ next.sent) next.rec
          (sent_after s (asked_all f op r.objects) next.sent (asks_all s f op r.objects h.1) on.1),
    )

-- the object is put back with the link that was asked, into a record that holds
puts : (s : ℕ) (r : Record) (o : Object) (l : Link) → HoldsIn s r → IsOf s l.session
    → AllIn s (put (is_object o.number) (record o { link = Some l }) r.objects)
puts s r o l h e = each_put (In s) (is_object o.number) (record o { link = Some l }) r.objects h.1 e

-- a frame whose grant moves raises what it raised
moves_in : (s : ℕ) (r : Record) (f : ℕ) (frame : Frame) (e : Event) → HoldsIn s r → RaisesIn s f frame
    → HoldsIn s (with_frame r f (moved frame e))
moves_in s r f frame e h k = (h.0, h.1, h.2, raise_set s r.frames f (moved frame e) h.3 k)

leaves : (s : ℕ) (r : Record) (frame : Frame) (o : Object) (l : Link) (ts : List Step) → HoldsIn s r
    → RaisesIn s o.frame frame → IsOf s l.session → StaysIn s (leaving_made r frame o l ts)
leaves s r frame o l ts h k e =
    let event : Event = grant.Ask (claim_of o l (grant_of frame.ui.state)) in
    let base : HoldsIn s (left r frame o l ts) = if_told (HoldsIn s) (gives_up ts)
    (with_frame r o.frame (moved frame event)) r (λ t. moves_in s r o.frame frame event h k) (λ t. h) in
    let asked = asks_each s l (map (operation_of 0) ts) e in (
      (base.0, puts s (left r frame o l ts) o (stepped_link 0 l ts).link base asked.0, base.2, base.3),
      sends_in s (stepped_link 0 l ts).sent asked.1,
    )

revokes : (s : ℕ) (r : Record) (holder : Option ℕ) → HoldsIn s r → RequestsIn s (revoked_at r holder)
revokes s r None h = (h, tt)
revokes s r (Some n) h = requests s r n UiDeactivate h

takes_in : (s : ℕ) (r : Record) (frame : Frame) (o : Object) (l : Link) (ts : List Step) → HoldsIn s r
    → RaisesIn s o.frame frame → IsOf s l.session → StaysIn s (taking_made r frame o l ts)
takes_in s r frame o l ts h k e =
    let first : Requested = revoked r frame o l in
    let base : RequestsIn s first = revokes s (claimed r frame o l) (holder_of frame.ui.state)
    (moves_in s r o.frame frame (grant.Ask (claim_of o l (r.last_g + 1))) h k) in
    let next = stepped_link (r.last_g + 1) l (steps_now frame.ui.state ts) in
    let asked = asks_each s l (map (operation_of (r.last_g + 1)) (steps_now frame.ui.state ts)) e in (
      (base.0.0, puts s first.rec o next.link base.0 asked.0, base.0.2, base.0.3),
      sends_in s
          (first.sent ++ next.sent) (sent_after s first.sent next.sent base.1 asked.1),
    )

-- no server is alive where none was started
pub none_alive : (r : Record) (inc : ℕ) → r.servers ≡ [] → is_alive r inc ≡ true → ⊥
none_alive r zero none alive = cc
none_alive r (suc i) none alive = (let no : is_unreaped (slice_get [] i) ≡ true =
    subst (λ (xs : List Bool). is_unreaped (slice_get xs i) ≡ true) none alive in cc)

alive_in : (s : ℕ) (r : Record) (inc : ℕ) → HoldsIn s r → is_alive r inc ≡ true → IsOf s r.session
alive_in s r inc h alive = (h.0, λ e. none_alive r inc (h.2 e) alive)

frame_in : (s : ℕ) (r : Record) (n : ℕ) (at : IsReadyAt r n) → HoldsIn s r → RaisesIn s at.object.frame at.frame
frame_in s r n at h = raises_at s r.frames at.object.frame at.frame h.3 at.inside

pub made_in : (s : ℕ) (r : Record) (ns : List ℕ) (t : Took) → HoldsIn s r → IsMade r t ns → StaysIn s t
made_in s r _ t h (makes_nothing made) = subst (StaysIn s) made (h, tt)
made_in s r _ t h (makes_frame name w k new made) =
    subst (StaysIn s) made ((h.0, h.1, h.2, raise_append s r.frames (new_frame name w k) refl h.3), tt)
made_in s r _ t h (makes_object f kind area at made) =
    subst (StaysIn s) made (
      (h.0, each_append (In s) r.objects (new_object (r.last_object + 1) f (kind_of kind) area) h.1 tt, h.2, h.3),
      tt,
    )
made_in s r _ t h (makes_fewer n at passive made) =
    subst (StaysIn s) made ((h.0, each_without (In s) (is_object at.object.number) r.objects h.1, h.2, h.3), tt)
made_in s r _ t h (makes_server started made) =
    let one : s ≢ 0 = λ e. started.session (h.0 ∙ e) in
    subst (StaysIn s) made ((h.0, h.1, λ e. absurd (one e), h.3), (one, tt))
made_in s r _ t h (makes_end inc alive made) = subst (StaysIn s) made (h, (tt, tt))
made_in s r _ t h (makes_activation n inc at run made) =
    let l : Link = begun_link r.session inc (r.last_act + 1) (first_operation at.object at.object.work.streams) in
    let mine : IsOf s r.session = alive_in s r inc h run.alive in
    subst (StaysIn s) made ((h.0, puts s r at.object l h mine, h.2, h.3), (mine, tt))
made_in s r _ t h (makes_edit n bytes go small has made) =
    let asked = asks s go.link (Edit bytes) (runs_in s r n go h) in
    subst (StaysIn s) made (
      (h.0, puts s r go.at.object (ask go.link (Edit bytes)).link h asked.0, h.2, h.3),
      sends_in s (ask go.link (Edit bytes)).sent asked.1,
    )
made_in s r _ t h (makes_save f raised name at raising other made) =
    subst (StaysIn s) made (saves s r f at.frame raised name h (raises_by s r f at.frame name raised h.0 raising))
made_in s r _ t h (makes_steps n go ts has row made) =
    subst (StaysIn s) made (leaves s r go.at.frame go.at.object go.link ts h (frame_in s r n go.at h)
    (runs_in s r n go h))
made_in s r _ t h (makes_taking n go ts taking made) =
    subst (StaysIn s) made (takes_in s r go.at.frame go.at.object go.link ts h (frame_in s r n go.at h)
    (runs_in s r n go h))

-- ---- a reply
regrants : (s : ℕ) (r : Record) (f : ℕ) (frame : Frame) (e : Option Event) → HoldsIn s r → RaisesIn s f frame
    → HoldsIn s (regranted_by r f frame e).rec × SentIn s (regranted_by r f frame e).sent
regrants s r f frame None h k = (h, tt)
regrants s r f frame (Some e) h k = grants_each s (with_frame r f (moved frame e))
    (passed_to frame.ui.state (after frame.ui e).state) (moves_in s r f frame e h k)

regrants_in : (s : ℕ) (r : Record) (f : ℕ) (tells : Tells) (frame : Option Frame) → HoldsIn s r
    → IfSome frame (RaisesIn s f) → HoldsIn s (regranted_in r f tells frame).rec
    × SentIn s (regranted_in r f tells frame).sent
regrants_in s r f tells None h k = (h, tt)
regrants_in s r f tells (Some frame) h k = regrants s r f frame (event_of frame.ui.state tells) h k

regrants_by : (s : ℕ) (r : Record) (f : ℕ) (tells : Option Tells) → HoldsIn s r
    → HoldsIn s (regranted r f tells).rec × SentIn s (regranted r f tells).sent
regrants_by s r f None h = (h, tt)
regrants_by s r f (Some tells) h = regrants_in s r f tells (nth r.frames f) h (if_raises s r.frames f h.3)

replies : (s : ℕ) (r : Record) (inc act : ℕ) (o : Object) (res : Result Replied ContainerFault) → HoldsIn s r
    → RepliedIn s res → KeepsIn s (reply_taken r inc act o res)
replies s r inc act o (Err fault) h k = tt
replies s r inc act o (Ok re) h k =
    let put_in : HoldsIn s (replied_record r inc act o re) = (
      h.0,
      each_put (In s) (is_linked inc act) (replied_object o re) r.objects h.1 (next_in s re.link k),
      h.2,
      h.3,
    ) in
    let granted = replied_grant r inc act o re in
    let passed = regrants_by s (replied_record r inc act o re) o.frame re.grant put_in in
    let last : Requested = replied_saving r inc act o re in
    let on : RequestsIn s last = if_told (RequestsIn s) (is_answered o.link re.link)
    (hand_off_in granted.rec o.frame) (unasked granted.rec) (λ t. hands_in s granted.rec o.frame passed.0)
    (λ t. (passed.0, tt)) in (
      settles_in s last.rec on.0,
      acts_in s (next_sent re.link ++ granted.sent ++ last.sent) last.rec
          (sent_after s (next_sent re.link ++ granted.sent) last.sent
          (sent_after s (next_sent re.link) granted.sent (calls_in s re.link k) passed.1) on.1),
    )

replies_found : (s : ℕ) (r : Record) (inc act n : ℕ) (answer : Answer) (o : Option Object) → HoldsIn s r
    → IfSome o (In s) → KeepsIn s (reply_found r inc act n answer o)
replies_found s r inc act n answer None h k = tt
replies_found s r inc act n answer (Some o) h k = replies s r inc act o (reply_link n answer o.link) h
    (answers_in s n answer o.link k)

replies_on : (s : ℕ) (r : Record) (inc act n : ℕ) (answer : Answer) → HoldsIn s r
    → KeepsIn s (on_reply r inc act n answer)
replies_on s r inc act n answer h =
    let found = find (is_linked inc act) r.objects in
    keeps_if s (is_alive r inc) (reply_found r inc act n answer found) Stale
    (replies_found s r inc act n answer found h (if_found (In s) (is_linked inc act) r.objects h.1))

-- ---- a write
writes : (s : ℕ) (r : Record) (inc act g w : ℕ) (content : Stored) (o : Object) (link : Option Link) → HoldsIn s r
    → IsInSession s link → KeepsIn s (write_link r inc act g w content o link)
writes s r inc act g w content o None h k = tt
writes s r inc act g w content o (Some l) h k =
    keeps_if s (is_open_to l g w) (if is_within content then Ok (write_made r inc act o l w content)
    else Err BadAnswer) Stale
    (keeps_if s (is_within content) (Ok (write_made r inc act o l w content)) BadAnswer
    ((h.0, each_put (In s) (is_linked inc act) (written_object o l w content) r.objects h.1 k, h.2, h.3), tt))

writes_found : (s : ℕ) (r : Record) (inc act g w : ℕ) (content : Stored) (o : Option Object) → HoldsIn s r
    → IfSome o (In s) → KeepsIn s (write_found r inc act g w content o)
writes_found s r inc act g w content None h k = tt
writes_found s r inc act g w content (Some o) h k = writes s r inc act g w content o o.link h k

writes_on : (s : ℕ) (r : Record) (inc act g w : ℕ) (content : Stored) → HoldsIn s r
    → KeepsIn s (on_write r inc act g w content)
writes_on s r inc act g w content h =
    let found = find (is_linked inc act) r.objects in
    keeps_if s (is_alive r inc) (write_found r inc act g w content found) Stale
    (writes_found s r inc act g w content found h (if_found (In s) (is_linked inc act) r.objects h.1))

-- ---- an ask
relieves : (s : ℕ) (r : Record) (act g : ℕ) (o : Object) (frame : Option Frame) → HoldsIn s r
    → IfSome frame (RaisesIn s o.frame) → KeepsIn s (ask_framed r o act g frame)
relieves s r act g o None h k = tt
relieves s r act g o (Some frame) h k =
    let event : Event = grant.Ask (record { object = o.number; act = act; g = g }) in
    let asked : RequestsIn s (relieved r o act g frame) = requests s (with_frame r o.frame (moved frame event))
    o.number UiDeactivate (moves_in s r o.frame frame event h k) in
    keeps_if s (is_held_by act g frame.ui.state)
    (Ok (counts_none (relieved r o act g frame).rec (acts (sends (relieved r o act g frame).sent)))) Stale
    (asked.0, sends_in s (relieved r o act g frame).sent asked.1)

relieves_found : (s : ℕ) (r : Record) (act g : ℕ) (o : Option Object) → HoldsIn s r → KeepsIn s (ask_found r act g o)
relieves_found s r act g None h = tt
relieves_found s r act g (Some o) h = relieves s r act g o (nth r.frames o.frame) h (if_raises s r.frames o.frame h.3)

said : (s : ℕ) (r : Record) (m : Said) → HoldsIn s r → KeepsIn s (said_to r m)
said s r (Call inc act n op) h = tt
said s r (Reply inc act n answer) h = replies_on s r inc act n answer h
said s r (Write inc act g w content) h = writes_on s r inc act g w content h
said s r (Ask inc act g) h = (let found = find (is_linked inc act) r.objects in
    keeps_if s (is_alive r inc) (ask_found r act g found) Stale (relieves_found s r act g found h))

refuses : (s : ℕ) (b : Bool) (fault : ContainerFault) (next : Result Took ContainerFault) → KeepsIn s next
    → KeepsIn s (unless b fault next)
refuses s b fault next k = if_told (KeepsIn s) b (Err fault) next (λ t. tt) (λ t. k)

pub messages : (s : ℕ) (r : Record) (link : ServerLink) (m : Message) → HoldsIn s r → KeepsIn s (on_message r link m)
messages s r link m h =
    let next = unless (not (link.session == r.session)) Stale (said_to r m.said) in
    refuses s (not (is_on link m)) WrongLink next
    (refuses s (not (link.session == r.session)) Stale (said_to r m.said) (said s r m.said h))

-- ---- the end of a server
none_reaped : (inc : ℕ) → set_nth {A = Bool} [] inc true ≡ []
none_reaped zero = refl
none_reaped (suc i) = refl

pub reaps : (s : ℕ) (r : Record) (inc : ℕ) → HoldsIn s r → KeepsIn s (on_reap r inc)
reaps s r inc h =
    let freed : Record = record (reaped r inc) { frames = map (freed_frame inc r.objects) r.frames } in
    let ended : HoldsIn s freed = (
      h.0,
      each_map (In s) (In s) (λ o. reaped_object inc o o.link) r.objects (λ o k. ends s inc o o.link k) h.1,
      λ e. ap (λ (xs : List Bool). set_nth xs inc true) (h.2 e) ∙ none_reaped inc,
      raise_map s (freed_frame inc r.objects) r.frames (λ n x k. k) h.3,
    ) in
    let first : Requested = reaped_grants r inc in
    let granted : RequestsIn s first = grants_each s freed (freed_claims inc r.objects r.frames) ended in
    let last : Requested = reaped_saving r inc in
    let on : RequestsIn s last = hands_each s 1 first.rec.frames first.rec granted.0 in
    keeps_if s (is_alive r inc) (Ok (reap_made r inc)) NoSuch (
      settles_in s last.rec on.0,
      acts_in s (first.sent ++ last.sent) last.rec
          (sent_after s first.sent last.sent granted.1 on.1),
    )

-- ---- commits that fail, and saves that are dropped
fails_at : (s : ℕ) (r : Record) (f : ℕ) (frame : Option Frame) → HoldsIn s r → IfSome frame (RaisesIn s f)
    → KeepsIn s (failed_at r f frame)
fails_at s r f None h k = tt
fails_at s r f (Some frame) h k = keeps_if s (is_committing frame.phase) (Ok (commit_doubted r f frame)) WrongState
    ((h.0, h.1, h.2, raise_set s r.frames f (doubted_frame frame) h.3 k), tt)

pub fails : (s : ℕ) (r : Record) (f : ℕ) → HoldsIn s r → KeepsIn s (commit_failed r f)
fails s r f h = fails_at s r f (nth r.frames f) h (if_raises s r.frames f h.3)

drops_at : (s : ℕ) (r : Record) (f : ℕ) (frame : Option Frame) → HoldsIn s r → KeepsIn s (resolved_at r f false frame)
drops_at s r f None h = tt
drops_at s r f (Some frame) h = keeps_if s (is_doubtful frame.phase) (Ok (save_dropped r f frame)) WrongState (
  (
    h.0,
    each_map (In s) (In s) (dropped_object f frame) r.objects (drops s f frame) h.1,
    h.2,
    raise_set s r.frames f
        (dropped_frame frame) h.3 tt,
  ),
  sends_in s (asked_all f (SaveDropped frame.k) r.objects) (asks_all s f (SaveDropped frame.k) r.objects h.1),
)

pub drops_in : (s : ℕ) (r : Record) (f : ℕ) → HoldsIn s r → KeepsIn s (resolve r f false)
drops_in s r f h = drops_at s r f (nth r.frames f) h

-- ---- a file that is opened: its objects are passive
objects_in : (s last f : ℕ) (ds : List DocObject) → AllIn s (opened_objects last f ds)
objects_in s last f [] = tt
objects_in s last f (d ∷ ds) = (tt, objects_in s (last + 1) f ds)

pub opens : (s : ℕ) (r : Record) (name : List ℕ) (w k : ℕ) (given : Given) (t : Took) → HoldsIn s r
    → opened r name w k given ≡ Ok t → StaysIn s t
opens s r name w k given t h e =
    let o = is_opened r name w k given t e in
    let new : List Object = opened_objects r.last_object (length r.frames + 1) o.d.objects in
    subst (StaysIn s) o.made (
      (
        h.0,
        each_after (In s) r.objects new h.1 (objects_in s r.last_object (length r.frames + 1) o.d.objects),
        h.2,
        raise_append s r.frames (opened_frame name w k o.d.session) refl h.3,
      ),
      tt,
    )
