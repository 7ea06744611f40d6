-- A frame is given up by its holder's own answer alone.
use Rattle.std.proofs.Common.{◌≡◌, ◌⊎◌, inl, inr, ℕ, ◌+◌, ◌==◌, Bool, true, false, List, [], ◌∷◌, Option, Some, None}
use Rattle.std.proofs.Common.{Result, Ok, Err, refl, sym, ap, ◌∙◌, subst, if◌then◌else◌}
use Rattle.std.proofs.lemmas.Bool.{eqb-true, eqb-false}
use Rattle.message_values.specs.Found.{find, nth, set_nth}
use Rattle.message_values.specs.Operations.{op_of}
use Rattle.message_values.specs.declared.answer.Answer.{Answer}
use Rattle.message_values.specs.declared.answer.Answer.TheVariants.{Done, Refused, Content, Tools}
use Rattle.message_values.specs.declared.message.Said.{Said}
use Rattle.message_values.specs.declared.message.Said.TheVariants.{Call, Reply, Write, Ask}
use Rattle.message_values.specs.declared.operation.Operation.{Operation}
use Rattle.message_values.specs.declared.operation.Operation.TheVariants.{InitNew, Load, InPlace, UiActivate}
use Rattle.message_values.specs.declared.operation.Operation.TheVariants.{UiDeactivate, InPlaceDeactivate, OpenWindow}
use Rattle.message_values.specs.declared.operation.Operation.TheVariants.{Edit, Save, HandsOff, SaveCompleted}
use Rattle.message_values.specs.declared.operation.Operation.TheVariants.{SaveDropped, Close}
use Rattle.object_state.specs.Both as both
use Rattle.object_state.specs.declared.both_states.States.{States}
use Rattle.object_state.specs.declared.faults.StateFault.{StateFault}
use Rattle.object_state.specs.declared.operations.CloseOption.TheVariants.{SaveIfDirty, NoSave}
use Rattle.tree_streams.specs.declared.stored.Stored.{Stored}
use Rattle.object_state.specs.Frames.{Ui, after}
use Rattle.object_state.specs.Grants as grant
use Rattle.object_state.specs.Grants.{Event, Granted, Lost, Revoked, who}
use Rattle.object_state.specs.GrantLaws.{IsRevoking}
use Rattle.object_state.specs.declared.grant_states.Claim.{Claim}
use Rattle.object_state.specs.declared.grant_states.Tools.{Tools as GrantTools}
use Rattle.object_state.specs.declared.grant_states.GrantState.{GrantState}
use Rattle.object_state.specs.declared.grant_states.GrantState.TheVariants as state
use Rattle.object_state.proofs.Table.{freed-by_holder}
use Rattle.container_model.specs.declared.grants.Tells.{Tells}
use Rattle.container_model.specs.declared.grants.Tells.TheVariants.{Gets, GivesUp as TellsGivenUp}
use Rattle.container_model.specs.declared.record.Link.{Link}
use Rattle.container_model.specs.declared.record.Object.{Object}
use Rattle.container_model.specs.declared.record.Frame.{Frame}
use Rattle.container_model.specs.declared.fault.ContainerFault.{ContainerFault}
use Rattle.container_model.specs.declared.fault.ContainerFault.TheVariants.{Stale, WrongLink}
use Rattle.container_model.specs.Grants.{event_of, grant_each, grant_of, is_by, moved, passed_to, regranted}
use Rattle.container_model.specs.Grants.{regranted_by, regranted_in, requested}
use Rattle.container_model.specs.HandOffs.{hand_off_in, is_answered, unasked}
use Rattle.container_model.specs.Record.{Record, Took, is_alive, is_linked, is_object}
use Rattle.container_model.specs.Saves.{settled_frame, settled_frames}
use Rattle.container_model.specs.Messages.{Replied, ask_found, ask_framed, closed_with, done_link, granted_link}
use Rattle.container_model.specs.Messages.{is_held_by, on_ask, on_reply, relieved, replied, replied_fitting}
use Rattle.container_model.specs.Messages.{replied_grant, replied_record, replied_saving, reply_found, reply_link}
use Rattle.container_model.specs.Messages.{reply_pending, reply_made, reply_taken, saved_link}
use Rattle.container_model.proofs.SaidOn.{is_said_on, said_on}
use Rattle.container_laws.specs.Laws.{FreedByHolders, GivesUp}
use Rattle.container_queues.specs.Roles.{IsClaim, SteadyGrant, role_in}
use Rattle.container_queues.specs.Steady.{Steady, SteadyObject}
use Rattle.container_steps.proofs.SteadyAnswers.{fit_replied}
use Rattle.container_steady.proofs.SteadyClaims.{settled_ui}
use Rattle.container_steady.proofs.SteadyFinds.{found_by_number}
use Rattle.container_queues.proofs.SteadyLookups.{each_found, nth-set_same, nth-set_other, nth-settled}
use Rattle.container_steady.proofs.SteadyHolders.{linked_by}
use Rattle.container_steps.proofs.HandedOff.{in_ui}
use Rattle.container_steps.proofs.SteadyMessages.{link_goes}
use Rattle.container_steady.proofs.SteadyRecords.{Held, some_and}
use Rattle.container_steps.proofs.SteadyReplies.{IsToldBy}
use Rattle.container_queues.proofs.SteadyRoles.{giving_at}
use Rattle.container_steady.proofs.SteadyTells.{ok_rec}
use Rattle.container_steady.proofs.SteadyTests.{find_passes}
use Rattle.container_commands.proofs.SteadyVerbs.{claim_act}
use Rattle.container_laws.proofs.WriteLaws.{taken_if, write_taken}

-- only the answer to UiDeactivate tells that a frame was given up
abbrev GivesOnly : Operation → Answer → Result Replied ContainerFault → Type 0
GivesOnly op answer (Err fault) = Unit {0}
GivesOnly op answer (Ok re) = (act : ℕ) → re.grant ≡ Some (TellsGivenUp act) → (op ≡ UiDeactivate) × (answer ≡ Done)

done_only : (op : Operation) (answer : Answer) (l : Link) (s : ℕ) (R : Result States StateFault)
    → GivesOnly op answer (done_link l s R)
done_only op answer l s (Err fault) = tt
done_only op answer l s (Ok v) = λ act e. cc

closed_only : (op : Operation) (answer : Answer) (content : Option Stored) (R : Result States StateFault)
    → GivesOnly op answer (closed_with content R)
closed_only op answer content (Err fault) = tt
closed_only op answer content (Ok v) = λ act e. cc

saved_only : (op : Operation) (answer : Answer) (content : Stored) (R : Result Replied ContainerFault)
    → GivesOnly op answer R → GivesOnly op answer (saved_link content R)
saved_only op answer content (Err fault) h = tt
saved_only op answer content (Ok re) h = h

gets_only : (op : Operation) (answer : Answer) (g : ℕ) (tools : GrantTools) (R : Result Replied ContainerFault)
    → GivesOnly op answer (granted_link (Gets g tools) R)
gets_only op answer g tools (Err fault) = tt
gets_only op answer g tools (Ok re) = λ act e. cc

gives_itself : (act : ℕ) (R : Result Replied ContainerFault)
    → GivesOnly UiDeactivate Done (granted_link (TellsGivenUp act) R)
gives_itself act (Err fault) = tt
gives_itself act (Ok re) = λ given e. (refl, refl)

gives_only : (l : Link) (op : Operation) (answer : Answer) → GivesOnly op answer (replied l op answer)
gives_only l (InitNew class) Done = done_only (InitNew class) Done l 1 (both.step l.states (op_of (InitNew class)))
gives_only l (InitNew class) (Refused why) = λ act e. cc
gives_only l (InitNew class) _ = tt
gives_only l (Load class content) Done = done_only (Load class content) Done l 1
    (both.step l.states (op_of (Load class content)))
gives_only l (Load class content) (Refused why) = λ act e. cc
gives_only l (Load class content) _ = tt
gives_only l InPlace Done = done_only InPlace Done l l.s (both.step l.states (op_of InPlace))
gives_only l InPlace _ = tt
gives_only l (UiActivate g) (Tools menus border) = gets_only (UiActivate g) (Tools menus border) g
    (record { menus = menus; border = border }) (done_link l l.s (both.step l.states (op_of (UiActivate g))))
gives_only l (UiActivate g) _ = tt
gives_only l UiDeactivate Done = gives_itself l.act (done_link l l.s (both.step l.states (op_of UiDeactivate)))
gives_only l UiDeactivate _ = tt
gives_only l InPlaceDeactivate Done = done_only InPlaceDeactivate Done l l.s
    (both.step l.states (op_of InPlaceDeactivate))
gives_only l InPlaceDeactivate _ = tt
gives_only l OpenWindow Done = done_only OpenWindow Done l l.s (both.step l.states (op_of OpenWindow))
gives_only l OpenWindow _ = tt
gives_only l (Edit bytes) Done = done_only (Edit bytes) Done l l.s (both.step l.states (op_of (Edit bytes)))
gives_only l (Edit bytes) (Refused why) = λ act e. cc
gives_only l (Edit bytes) _ = tt
gives_only l (Save k) (Content content) = saved_only (Save k) (Content content) content
    (done_link l l.s (both.step l.states (op_of (Save k))))
    (done_only (Save k) (Content content) l l.s (both.step l.states (op_of (Save k))))
gives_only l (Save k) _ = tt
gives_only l HandsOff Done = done_only HandsOff Done l l.s (both.step l.states (op_of HandsOff))
gives_only l HandsOff _ = tt
gives_only l (SaveCompleted k storage) Done = done_only (SaveCompleted k storage) Done l (l.s + 1)
    (both.step l.states (op_of (SaveCompleted k storage)))
gives_only l (SaveDropped k) Done = done_only (SaveDropped k) Done l (l.s + 1)
    (both.step l.states (op_of (SaveDropped k)))
gives_only l (SaveCompleted k storage) _ = tt
gives_only l (SaveDropped k) _ = tt
gives_only l (Close SaveIfDirty) (Content content) = closed_only (Close SaveIfDirty) (Content content)
    (Some content) (both.step l.states (op_of (Close SaveIfDirty)))
gives_only l (Close SaveIfDirty) _ = tt
gives_only l (Close NoSave) Done = closed_only (Close NoSave) Done None (both.step l.states (op_of (Close NoSave)))
gives_only l (Close NoSave) _ = tt

-- the call that was answered
record GaveUp (link : Option Link) (n : ℕ) (answer : Answer) : Type 0 where
  l : Link
  is : link ≡ Some l
  pending : l.pending ≡ Some UiDeactivate
  answered : answer ≡ Done

given_pending : (l : Link) (n : ℕ) (answer : Answer) (p : Option Operation) (re : Replied) (act : ℕ) → l.pending ≡ p
    → reply_pending l n answer p ≡ Ok re → re.grant ≡ Some (TellsGivenUp act) → GaveUp (Some l) n answer
given_pending l n answer None re act is e g = cc
given_pending l n answer (Some op) re act is e g =
    let b = taken_if (n == l.last) (replied_fitting l op answer) Stale re e in
    let f = fit_replied l op answer re b.1 in
    let only = subst (GivesOnly op answer) f.1 (gives_only l op answer) act g in
    record { l = l; is = refl; pending = is ∙ ap Some only.0; answered = only.1 }

given_link : (n : ℕ) (answer : Answer) (link : Option Link) (re : Replied) (act : ℕ)
    → reply_link n answer link ≡ Ok re → re.grant ≡ Some (TellsGivenUp act) → GaveUp link n answer
given_link n answer None re act e g = cc
given_link n answer (Some l) re act e g = given_pending l n answer l.pending re act refl e g

-- who has a frame still has it
abbrev Kept : List Frame → ℕ → Claim → Type 0
Kept frames f holder = (later : Frame) × (nth frames f ≡ Some later) × (who later.ui.state ≡ Some holder)

settled_has : (os : List Object) (frames : List Frame) (f : ℕ) (holder : Claim) → Kept frames f holder
    → Kept (settled_frames 1 os frames) f holder
settled_has os frames f holder h = (
  settled_frame f os h.0,
  nth-settled os frames f h.0 h.1,
  ap (λ (u : Ui). who u.state) (settled_ui f os h.0)
      ∙ h.2,
)

handed_has : (v : Record) (g f : ℕ) (holder : Claim) → Kept v.frames f holder
    → Kept (hand_off_in v g).rec.frames f holder
handed_has v g f holder h = (let y = in_ui v g f h.0 h.1 in (y.0, y.1, ap (λ (u : Ui). who u.state) y.2 ∙ h.2))

saving_has : (b : Bool) (v : Record) (g f : ℕ) (holder : Claim) → Kept v.frames f holder
    → Kept (if b then hand_off_in v g else unasked v).rec.frames f holder
saving_has true v g f holder h = handed_has v g f holder h
saving_has false v g f holder h = h

pub requested_frames : (v : Record) (op : Operation) (z : Option Object) → (requested v op z).rec.frames ≡ v.frames
requested_frames v op None = refl
requested_frames v op (Some y) = refl

pub granted_frames : (cs : List Claim) (v : Record) → (grant_each v cs).rec.frames ≡ v.frames
granted_frames [] v = refl
granted_frames (c ∷ cs) v =
    let z = find (is_object c.object) v.objects in
    granted_frames cs (requested v (UiActivate c.g) z).rec ∙ requested_frames v (UiActivate c.g) z

-- an event of the grant of one frame
given_event : (s : GrantState) (b : Bool) (event : Event) → (if b then Some (Revoked (grant_of s)) else None)
    ≡ Some event → Revoked (grant_of s) ≡ event
given_event s true event e = cc
given_event s false event e = cc

granted_not_lost : (g act : ℕ) (tools : GrantTools) → Granted g tools ≡ Lost act → ⊥
granted_not_lost g act tools e = cc

granted_not_revoked : (g h : ℕ) (tools : GrantTools) → Granted g tools ≡ Revoked h → ⊥
granted_not_revoked g h tools e = cc

asked_not_lost : (c : Claim) (act : ℕ) → grant.Ask c ≡ Lost act → ⊥
asked_not_lost c act e = cc

asked_not_revoked : (c : Claim) (g : ℕ) → grant.Ask c ≡ Revoked g → ⊥
asked_not_revoked c g e = cc

revoked_not_lost : (g act : ℕ) → Revoked g ≡ Lost act → ⊥
revoked_not_lost g act e = cc

module _ (frames : List Frame) (f i : ℕ) (frame fr : Frame) (holder : Claim) (event : Event)
    (at : nth frames f ≡ Some frame) (has : who frame.ui.state ≡ Some holder) (there : nth frames i ≡ Some fr) where
  moved_has : Kept (set_nth frames i (moved fr event)) f holder
      ⊎ ((i ≡ f) × (frame ≡ fr)
      × ((event ≡ Lost holder.act) ⊎ (IsRevoking frame.ui.state × (event ≡ Revoked holder.g))))
  moved_has = elim (i == f) as (λ b. (i == f) ≡ b → Kept (set_nth frames i (moved fr event)) f holder
      ⊎ ((i ≡ f) × (frame ≡ fr)
      × ((event ≡ Lost holder.act) ⊎ (IsRevoking frame.ui.state × (event ≡ Revoked holder.g))))) [
        | true ↦ (λ t.
            let same = eqb-true i f t in
            let both = sym at ∙ (ap (nth frames) (sym same) ∙ there) in
            let is : frame ≡ fr = cc in
            let now : nth (set_nth frames i (moved fr event)) f ≡ Some (moved fr event) =
            ap (nth (set_nth frames i (moved fr event))) (sym same) ∙ nth-set_same frames i fr (moved fr event)
            there in
            elim (freed-by_holder frame.ui event holder has) [
              | inl still ↦ inl (moved fr event, now, ap (λ (x : Frame). who (after x.ui event).state) (sym is) ∙ still)
              | inr gone ↦ inr (same, is, gone)
            ])
        | false ↦ (λ t. inl (frame, nth-set_other frames i f (moved fr event) (eqb-false i f t) ∙ at, has))
      ] refl

-- a reply
module _ (r : Record) (link inc act n : ℕ) (answer : Answer) (f : ℕ) (frame : Frame) (holder : Claim) (s : Steady r)
    (at : nth r.frames f ≡ Some frame) (has : who frame.ui.state ≡ Some holder) (o : Object)
    (found : find (is_linked inc act) r.objects ≡ Some o) (re : Replied)
    (goes : reply_link n answer o.link ≡ Ok re) where
  abbrev Freed : List Frame → Type 0
  Freed frames = Kept frames f holder ⊎ GivesUp r (Reply inc act n answer) frame holder

  gives_it_up : (given : ℕ) → re.grant ≡ Some (TellsGivenUp given) → o.frame ≡ f → IsRevoking frame.ui.state
      → GivesUp r (Reply inc act n answer) frame holder
  gives_it_up given told inside revoking =
      let h = each_found (SteadyObject r) (is_linked inc act) r.objects o s.objects found in
      let a = some_and (Held r o.number o.link) (nth r.frames o.frame) h.linked in
      let both = sym a.1 ∙ (ap (nth r.frames) inside ∙ at) in
      let same : a.0 ≡ frame = cc in
      let steady = link_goes r a.0 o.number n answer o.link re a.2 goes in
      let part = subst (λ (z : Option Tells). IsToldBy z (role_in a.0.ui.state o.number)) told steady.stays.tells in
      let g = giving_at a.0.ui.state o.number part.0 part.1 in
      let named_who : Some g.holder ≡ Some holder = sym (ap who g.is)
      ∙ (ap (λ (x : Frame). who x.ui.state) same ∙ has) in
      let whose : g.holder ≡ holder = cc in
      let named : holder.object ≡ o.number = ap (λ (c : Claim). c.object) (sym whose) ∙ g.named in
      let there = found_by_number (is_linked inc act) r.objects o s.order found in
      let is : a.0.ui.state ≡ state.Revoking holder g.next = g.is ∙ ap (λ (c : Claim). state.Revoking c g.next) whose in
      let claim : IsClaim r o.frame holder = (subst (SteadyGrant r o.frame) is (s.grants o.frame a.0 a.1)).holder in
      let up = given_link n answer o.link re given goes told in
      let mine = linked_by inc act o.link (find_passes (is_linked inc act) r.objects o found) in
      let links = sym up.is ∙ mine.1 in
      let one : up.l ≡ mine.0 = cc in
      let acts : act ≡ holder.act = sym mine.3
      ∙ (ap (λ (z : Link). z.act) (sym one) ∙ claim_act r o.frame holder o up.l claim named there up.is) in
      record {
        revoking = revoking;
        inc = inc;
        n = n;
        answered = ap (λ (x : ℕ). Reply inc x n answer) acts ∙ ap (Reply inc holder.act n) up.answered;
        object = o;
        link = up.l;
        found = ap (λ (x : ℕ). find (is_object x) r.objects) named ∙ there;
        linked = up.is;
        pending = up.pending;
      }

  told_at : (told : Tells) (fr : Frame) (event : Event) → re.grant ≡ Some told → nth r.frames o.frame ≡ Some fr
      → event_of fr.ui.state told ≡ Some event → Freed (set_nth r.frames o.frame (moved fr event))
  told_at (Gets g tools) fr event e there is =
      let same : Granted g tools ≡ event = cc in
      subst (λ (x : Event). Freed (set_nth r.frames o.frame (moved fr x))) same
      (elim (moved_has r.frames f o.frame frame fr holder (Granted g tools) at has there) [
        | inl still ↦ inl still
        | inr gone ↦ elim gone.2 [
          | inl lost ↦ absurd (granted_not_lost g holder.act tools lost)
          | inr bad ↦
              absurd (granted_not_revoked g holder.g tools bad.1)
        ]
      ])
  told_at (TellsGivenUp given) fr event e there is =
      let same : Revoked (grant_of fr.ui.state) ≡ event = given_event fr.ui.state (is_by given (who fr.ui.state))
      event is in
      subst (λ (x : Event). Freed (set_nth r.frames o.frame (moved fr x))) same
      (elim (moved_has r.frames f o.frame frame fr holder (Revoked (grant_of fr.ui.state)) at has there) [
        | inl still ↦ inl still
        | inr gone ↦ elim gone.2 [
          | inl lost ↦ absurd (revoked_not_lost (grant_of fr.ui.state) holder.act lost)
          | inr
              up ↦ inr (gives_it_up given e gone.0 up.0)
        ]
      ])

  freed_by : (told : Tells) (fr : Frame) (event : Option Event) → re.grant ≡ Some told
      → nth r.frames o.frame ≡ Some fr → event_of fr.ui.state told ≡ event
      → Freed (regranted_by (replied_record r inc act o re) o.frame fr event).rec.frames
  freed_by told fr None e there is = inl (frame, at, has)
  freed_by told fr (Some event) e there is =
      subst Freed
      (sym (granted_frames (passed_to fr.ui.state (after fr.ui event).state)
      (record (replied_record r inc act o re) { frames = set_nth r.frames o.frame (moved fr event) })))
      (told_at told fr event e there is)

  freed_as : (g : Option Tells) → re.grant ≡ g → Freed (regranted (replied_record r inc act o re) o.frame g).rec.frames
  freed_as None e = inl (frame, at, has)
  freed_as (Some told) e =
      let h = each_found (SteadyObject r) (is_linked inc act) r.objects o s.objects found in
      let a = some_and (Held r o.number o.link) (nth r.frames o.frame) h.linked in
      subst (λ (z : Option Frame). Freed (regranted_in (replied_record r inc act o re) o.frame told z).rec.frames)
      (sym a.1) (freed_by told a.0 (event_of a.0.ui.state told) e a.1 refl)

  pub reply_freed : (t : Took) → reply_made r inc act o re ≡ t → Freed t.rec.frames
  reply_freed t e = subst (λ (u : Took). Freed u.rec.frames) e (elim (freed_as re.grant refl) [
    | inl still ↦ inl (settled_has (replied_saving r inc act o re).rec.objects
        (replied_saving r inc act o re).rec.frames f holder
        (saving_has (is_answered o.link re.link) (replied_grant r inc act o re).rec o.frame f holder still))
    | inr up ↦ inr up
  ])

-- an ask tells a holder, and frees nothing
ask_has : (r : Record) (o : Object) (act g f : ℕ) (frame fr : Frame) (holder : Claim) → nth r.frames f ≡ Some frame
    → who frame.ui.state ≡ Some holder → nth r.frames o.frame ≡ Some fr
    → Kept (relieved r o act g fr).rec.frames f holder
ask_has r o act g f frame fr holder at has there =
    let event : Event = grant.Ask (record { object = o.number; act = act; g = g }) in
    let v : Record = record r { frames = set_nth r.frames o.frame (moved fr event) } in
    subst (λ (frames : List Frame). Kept frames f holder)
    (sym (requested_frames v UiDeactivate (find (is_object o.number) r.objects)))
    (elim (moved_has r.frames f o.frame frame fr holder event at has there) [
      | inl still ↦ still
      | inr gone ↦ elim gone.2 [
        | inl lost ↦ absurd (asked_not_lost _ holder.act lost)
        | inr bad ↦
            absurd (asked_not_revoked _ holder.g bad.1)
      ]
    ])

module _ (r : Record) (link : ℕ) (t : Took) (f : ℕ) (frame : Frame) (holder : Claim) (s : Steady r)
    (at : nth r.frames f ≡ Some frame) (has : who frame.ui.state ≡ Some holder) where
  ask_framed_freed : (o : Object) (act g : ℕ) (fr : Option Frame) → nth r.frames o.frame ≡ fr
      → ask_framed r o act g fr ≡ Ok t → Kept t.rec.frames f holder
  ask_framed_freed o act g None there e = cc
  ask_framed_freed o act g (Some fr) there e =
      let b = taken_if (is_held_by act g fr.ui.state) _ Stale t e in
      subst (λ (u : Record). Kept u.frames f holder) (ok_rec _ t b.1) (ask_has r o act g f frame fr holder at has there)

  ask_found_freed : (act g : ℕ) (o : Option Object) → ask_found r act g o ≡ Ok t → Kept t.rec.frames f holder
  ask_found_freed act g None e = cc
  ask_found_freed act g (Some o) e = ask_framed_freed o act g (nth r.frames o.frame) refl e

  taken_freed : (inc act n : ℕ) (answer : Answer) (o : Object) (R : Result Replied ContainerFault)
      → find (is_linked inc act) r.objects ≡ Some o → reply_link n answer o.link ≡ R
      → reply_taken r inc act o R ≡ Ok t → Kept t.rec.frames f holder
      ⊎ GivesUp r (Reply inc act n answer) frame holder
  taken_freed inc act n answer o (Err fault) found goes e = cc
  taken_freed inc act n answer o (Ok re) found goes e =
      (let same : reply_made r inc act o re ≡ t = cc in
      reply_freed r link inc act n answer f frame holder s at has o found re goes t same)

  found_freed : (inc act n : ℕ) (answer : Answer) (o : Option Object) → find (is_linked inc act) r.objects ≡ o
      → reply_found r inc act n answer o ≡ Ok t → Kept t.rec.frames f holder
      ⊎ GivesUp r (Reply inc act n answer) frame holder
  found_freed inc act n answer None found e = cc
  found_freed inc act n answer (Some o) found e = taken_freed inc act n answer o (reply_link n answer o.link) found
      refl e

freed_by_said : (r : Record) (link : ℕ) (m : Said) (t : Took) (f : ℕ) (frame : Frame) (holder : Claim) → Steady r
    → said_on r link m ≡ Ok t → nth r.frames f ≡ Some frame → who frame.ui.state ≡ Some holder
    → Kept t.rec.frames f holder ⊎ GivesUp r m frame holder
freed_by_said r link (Call inc act n op) t f frame holder s e at has = cc
freed_by_said r link (Reply inc act n answer) t f frame holder s e at has =
    let a = taken_if (inc == link) (on_reply r inc act n answer) WrongLink t e in
    let b = taken_if (is_alive r inc) (reply_found r inc act n answer (find (is_linked inc act) r.objects)) Stale t
    a.1 in
    found_freed r link t f frame holder s at has inc act n answer (find (is_linked inc act) r.objects) refl b.1
freed_by_said r link (Write inc act w1 w2 content) t f frame holder s e at has =
    let h = write_taken r link inc act w1 w2 content t e in
    inl (frame, ap (λ (u : Record). nth u.frames f) h.made ∙ at, has)
freed_by_said r link (Ask inc act g) t f frame holder s e at has =
    let a = taken_if (inc == link) (on_ask r inc act g) WrongLink t e in
    let b = taken_if (is_alive r inc) (ask_found r act g (find (is_linked inc act) r.objects)) Stale t a.1 in
    inl (ask_found_freed r link t f frame holder s at has act g (find (is_linked inc act) r.objects) b.1)

pub freed-by_holders : FreedByHolders
freed-by_holders r link m t f frame holder s e at has = freed_by_said r link.inc m.said t f frame holder s
    (is_said_on r link m t e).said at has
