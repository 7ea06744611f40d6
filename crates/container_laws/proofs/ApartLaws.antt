-- What comes on the link of a server stays apart from what isn't that server's.
use Rattle.std.proofs.Common.{◌≡◌, inl, inr, ℕ, zero, suc, ◌==◌, Bool, true, false, List, [], ◌∷◌, ◌++◌, Option, Some}
use Rattle.std.proofs.Common.{None, Result, Ok, Err, slice_get, refl, sym, ap, ◌∙◌, subst, append_assoc, if◌then◌else◌}
use Rattle.std.proofs.Common.{eq-eqb}
use Rattle.std.proofs.lemmas.Bool.{eqb-true, eqb-false}
use Rattle.std.proofs.lemmas.List.{append-nil}
use Rattle.message_values.specs.Found.{find, nth, set_nth}
use Rattle.message_values.specs.declared.answer.Answer.{Answer}
use Rattle.message_values.specs.declared.message.Said.{Said}
use Rattle.message_values.specs.declared.message.Message.{Message}
use Rattle.message_values.specs.declared.message.Said.TheVariants.{Call, Reply, Write, Ask}
use Rattle.message_values.specs.declared.operation.Operation.{Operation}
use Rattle.message_values.specs.declared.operation.Operation.TheVariants.{HandsOff, UiActivate, UiDeactivate}
use Rattle.object_state.specs.Frames.{after}
use Rattle.object_state.specs.Grants as grant
use Rattle.object_state.specs.Grants.{Event, who}
use Rattle.object_state.specs.declared.grant_states.Claim.{Claim}
use Rattle.container_model.specs.declared.server_link.ServerLink.{ServerLink}
use Rattle.container_model.specs.declared.grants.Tells.{Tells}
use Rattle.container_model.specs.declared.grants.Tells.TheVariants.{Gets, GivesUp}
use Rattle.container_model.specs.declared.record.Frame.{Frame}
use Rattle.container_model.specs.declared.record.Link.{Link}
use Rattle.container_model.specs.declared.record.Object.{Object}
use Rattle.container_model.specs.declared.record.Phase.TheVariants.{Committing}
use Rattle.container_model.specs.declared.fault.ContainerFault.{ContainerFault}
use Rattle.container_model.specs.declared.fault.ContainerFault.TheVariants.{Stale, WrongLink}
use Rattle.container_model.specs.Grants.{Requested, event_of, is_hosted, is_hosted_object, moved, passed_to, regranted}
use Rattle.container_model.specs.Grants.{regranted_by, regranted_in}
use Rattle.container_model.specs.HandOffs.{hand_off_at, hand_off_in, handed_off, handing_frame, hands_off, is_answered}
use Rattle.container_model.specs.HandOffs.{unasked}
use Rattle.container_model.specs.Inputs.{Input}
use Rattle.container_model.specs.Messages.{Replied, ask_found, ask_framed, is_held_by, on_ask, on_message, on_reply}
use Rattle.container_model.specs.Messages.{replied_grant, replied_record, replied_saving, reply_found, reply_link}
use Rattle.container_model.specs.Messages.{reply_made, reply_taken}
use Rattle.container_model.specs.Record.{Record, Took, ask_at, asked_link, is_alive, is_link, is_linked, is_object}
use Rattle.container_model.specs.Saves.{is_ready, settled_frame, settled_frames}
use Rattle.container_model.proofs.SaidOn.{is_said_on, said_on}
use Rattle.container_laws.specs.Apart.{KeepsActivation, KeepsFrame, KeepsLink, KeepsObject, MessagesStayApart}
use Rattle.container_laws.specs.Apart.{StaysApart, is_of_server}
use Rattle.container_laws.specs.Laws.{StaysOrIsAsked, StaysOrIsGranted, is_about}
use Rattle.container_laws.proofs.FreedLaws.{granted_frames, requested_frames}
use Rattle.container_laws.proofs.MessageLaws.{only_expected}
use Rattle.container_laws.proofs.MessagesKeep.{messages-keep_others}
use Rattle.container_laws.proofs.WriteLaws.{taken_if, write_taken}
use Rattle.container_queues.specs.Roles.{IsClaim, role_in}
use Rattle.container_queues.specs.Steady.{Steady, SteadyObject}
use Rattle.container_steady.proofs.SteadyFinds.{acts_differ, found_by_number}
use Rattle.container_steady.proofs.SteadyHolders.{held_by, linked_by}
use Rattle.container_queues.proofs.SteadyLookups.{each_found, each_get, nth-set_other, nth-set_same, nth-settled}
use Rattle.container_steady.proofs.SteadyRecords.{Held, if_at, if_told, some_and}
use Rattle.container_queues.proofs.SteadyRoles.{getting_at, giving_at}
use Rattle.container_steady.proofs.SteadyTells.{ok_rec}
use Rattle.container_steady.proofs.SteadyTests.{find_passes}
use Rattle.container_steps.proofs.SteadyMessages.{link_goes}
use Rattle.container_steps.proofs.SteadyReaps.{each_own}
use Rattle.container_steps.proofs.SteadyReplies.{IsToldBy}
use Rattle.container_steps.proofs.SteadyRuns.{on_input_keeps}

-- ---- an activation that is asked more, or nothing
same_activation : (l : Link) → KeepsActivation l l
same_activation l = record {
  inc = refl;
  act = refl;
  states = refl;
  s = refl;
  w = refl;
  saved = refl;
  pending = λ op e. (e, refl);
  waiting = ([], sym (append-nil l.waiting));
}

asked_activation : (l : Link) (op : Operation) (p : Option Operation) → l.pending ≡ p
    → KeepsActivation l (ask_at l op p).link
asked_activation l op None is = record {
  inc = refl;
  act = refl;
  states = refl;
  s = refl;
  w = refl;
  saved = refl;
  pending = λ before e. absurd (cc);
  waiting = ([], sym (append-nil l.waiting));
}
asked_activation l op (Some before) is = record {
  inc = refl;
  act = refl;
  states = refl;
  s = refl;
  w = refl;
  saved = refl;
  pending = λ now e. (e, refl);
  waiting = (op ∷ [], refl);
}

then_activation : (l m n : Link) → KeepsActivation l m → KeepsActivation m n → KeepsActivation l n
then_activation l m n h k = record {
  inc = k.inc ∙ h.inc;
  act = k.act ∙ h.act;
  states = k.states ∙ h.states;
  s = k.s ∙ h.s;
  w = k.w ∙ h.w;
  saved = k.saved ∙ h.saved;
  pending = λ op e. (let a = h.pending op e in let b = k.pending op a.0 in (b.0, b.1 ∙ a.1));
  waiting = (
    h.waiting.0 ++ k.waiting.0,
    k.waiting.1
        ∙ (ap (λ (ops : List Operation). ops ++ k.waiting.0) h.waiting.1
        ∙ append_assoc l.waiting h.waiting.0 k.waiting.0),
  );
}

same_link : (link : Option Link) → KeepsLink link link
same_link None = tt
same_link (Some l) = same_activation l

more_asked : (op : Operation) (link : Option Link) → KeepsLink link (asked_link op link)
more_asked op None = tt
more_asked op (Some l) = asked_activation l op l.pending refl

then_link : (a b c : Option Link) → KeepsLink a b → KeepsLink b c → KeepsLink a c
then_link None None None h k = tt
then_link None None (Some n) h k = absurd k
then_link None (Some m) c h k = absurd h
then_link (Some l) None c h k = absurd h
then_link (Some l) (Some m) None h k = absurd k
then_link (Some l) (Some m) (Some n) h k = then_activation l m n h k

-- ---- an object
same_object : (o : Object) → KeepsObject o o
same_object o = record { whole = refl; link = same_link o.link }

asked_object : (op : Operation) (o later : Object) → later ≡ record o { link = asked_link op o.link }
    → KeepsObject o later
asked_object op o later e = subst (KeepsObject o) (sym e) (record { whole = refl; link = more_asked op o.link })

then_object : (o p q : Object) → KeepsObject o p → KeepsObject p q → KeepsObject o q
then_object o p q h k = record {
  whole = k.whole ∙ ap (λ (z : Object). record z { link = q.link }) h.whole;
  link = then_link o.link p.link q.link h.link k.link;
}

stays_or_granted : (r : Record) (o told : Object) → StaysOrIsGranted r o told → KeepsObject o told
stays_or_granted r o told (inl e) = subst (KeepsObject o) (sym e) (same_object o)
stays_or_granted r o told (inr g) = asked_object (UiActivate g.claim.g) o told g.told

stays_or_asked : (r : Record) (o later : Object) → StaysOrIsAsked r o later → KeepsObject o later
stays_or_asked r o later h =
    let told = stays_or_granted r o h.0 h.1 in
    elim h.2 [
      | inl e ↦ subst (KeepsObject o) (sym e) told
      | inr g ↦ then_object o h.0 later told (asked_object HandsOff h.0 later g.asked)
    ]

place_of : (n : ℕ) (os : List Object) (o : Object) → find (is_object n) os ≡ Some o → (i : ℕ)
    × (slice_get os i ≡ Some o)
place_of n [] o e = cc
place_of n (y ∷ ys) o e = elim (is_object n y) as (λ b. (if b then Some y else find (is_object n) ys) ≡ Some o
    → (i : ℕ) × (slice_get (y ∷ ys) i ≡ Some o)) [
      | true ↦ (λ g. (zero, g))
      | false ↦ (λ g. let k = place_of n ys o g in (suc k.0, k.1))
    ] e

-- a message is about activations of its link's server alone
not_linked : (inc act link : ℕ) (k : Option Link) → inc ≡ link → is_hosted link k ≡ false → is_link inc act k ≡ false
not_linked inc act link None same h = refl
not_linked inc act link (Some l) same h = (let e : (l.inc == inc) ≡ false = ap (λ (n : ℕ). l.inc == n) same ∙ h in
    rw e refl)

about_others : (r : Record) (link : ℕ) (m : Said) (t : Took) → said_on r link m ≡ Ok t → (o : Object)
    → is_hosted link o.link ≡ false → is_about m o ≡ false
about_others r link (Call inc act n op) t e o h = cc
about_others r link (Reply inc act n answer) t e o h = not_linked inc act link o.link
    (only_expected r link (Reply inc act n answer) t e).0 h
about_others r link (Write inc act n w content) t e o h =
    not_linked inc act link o.link (only_expected r link (Write inc act n w content) t e).0 h
about_others r link (Ask inc act g) t e o h = not_linked inc act link o.link
    (only_expected r link (Ask inc act g) t e).0 h

objects_stay : (r : Record) (link : ServerLink) (m : Message) (t : Took) → Steady r → on_message r link m ≡ Ok t
    → (n : ℕ) (o : Object) → find (is_object n) r.objects ≡ Some o → is_hosted link.inc o.link ≡ false
    → (p : Object) × (find (is_object n) t.rec.objects ≡ Some p) × KeepsObject o p
objects_stay r link m t s e n o found other =
    let i = place_of n r.objects o found in
    let k = messages-keep_others r link m t s e i.0 o i.1
    (about_others r link.inc m.said t (is_said_on r link m t e).said o other) in
    let keeps = stays_or_asked r o k.0 k.2 in
    let later : Steady t.rec = on_input_keeps r (Input.Told link m) t s e in
    let here : find (is_object k.0.number) t.rec.objects ≡ Some k.0 =
    each_get (λ (x : Object). find (is_object x.number) t.rec.objects ≡ Some x) t.rec.objects i.0 k.0
    (each_own t.rec.objects later.order) k.1 in
    let number : k.0.number ≡ n = ap (λ (z : Object). z.number) keeps.whole
    ∙ eqb-true o.number n (find_passes (is_object n) r.objects o found) in
    (k.0, subst (λ (x : ℕ). find (is_object x) t.rec.objects ≡ Some k.0) number here, keeps)

-- ---- a frame
abbrev Stays : Frame → ℕ → List Frame → Type 0
Stays frame f frames = (g : Frame) × (nth frames f ≡ Some g) × KeepsFrame frame g

then_frame : (x y z : Frame) → KeepsFrame x y → KeepsFrame y z → KeepsFrame x z
then_frame x y z h k = k ∙ ap (λ (g : Frame). record g { phase = z.phase }) h

set_stays : (frames : List Frame) (g f : ℕ) (fr y x : Frame) → nth frames g ≡ Some fr → KeepsFrame fr y
    → nth frames f ≡ Some x → Stays x f (set_nth frames g y)
set_stays frames g f fr y x there keeps at = elim (g == f) as (λ b. (g == f) ≡ b → Stays x f (set_nth frames g y)) [
  | true ↦ (λ t.
      let same = eqb-true g f t in
      let both = sym there ∙ (ap (nth frames) same ∙ at) in
      let is : fr ≡ x = cc in (
        y,
        subst (λ (n : ℕ). nth (set_nth frames g y) n ≡ Some y) same (nth-set_same frames g fr y there),
        subst (λ (z : Frame). KeepsFrame z y) is keeps,
      ))
  | false ↦ (λ t. (x, nth-set_other frames g f y (eqb-false g f t) ∙ at, refl))
] refl

-- as saves go on
settled_keeps : (os : List Object) (f : ℕ) (x : Frame) → KeepsFrame x (settled_frame f os x)
settled_keeps os f x = if_told (KeepsFrame x) (is_ready f os x) (record x { phase = Committing }) x (λ e. refl)
    (λ e. refl)

settled_stays : (os : List Object) (frames : List Frame) (frame : Frame) (f : ℕ) → Stays frame f frames
    → Stays frame f (settled_frames 1 os frames)
settled_stays os frames frame f h = (
  settled_frame f os h.0,
  nth-settled os frames f h.0 h.1,
  then_frame frame h.0 (settled_frame f os h.0) h.2
      (settled_keeps os f h.0),
)

hand_at : (v : Record) (g : ℕ) (fr : Option Frame) (f : ℕ) (x : Frame) → nth v.frames g ≡ fr
    → nth v.frames f ≡ Some x → Stays x f (hand_off_at v g fr).rec.frames
hand_at v g None f x there at = (x, at, refl)
hand_at v g (Some fr) f x there at = if_told (λ (z : Requested). Stays x f z.rec.frames) (hands_off g v.objects fr)
    (handed_off v g fr) (unasked v)
    (λ e. set_stays v.frames g f fr (handing_frame fr) x there refl at)
    (λ e. (x, at, refl))

handed_stays : (b : Bool) (v : Record) (g : ℕ) (frame : Frame) (f : ℕ) → Stays frame f v.frames
    → Stays frame f (if b then hand_off_in v g else unasked v).rec.frames
handed_stays true v g frame f h = (let k = hand_at v g (nth v.frames g) f h.0 refl h.1 in
    (k.0, k.1, then_frame frame h.0 k.0 h.2 k.2))
handed_stays false v g frame f h = h

-- a message of an activation of this object, which runs in the server of the link, while the frame is of no object of
-- that server
module _ (r : Record) (link inc act f : ℕ) (frame : Frame) (s : Steady r) (same : inc ≡ link)
    (at : nth r.frames f ≡ Some frame) (others : is_of_server link r.objects (who frame.ui.state) ≡ false)
    (o : Object) (found : find (is_linked inc act) r.objects ≡ Some o) where
  there : find (is_object o.number) r.objects ≡ Some o
  there = found_by_number (is_linked inc act) r.objects o s.order found

  hosted : is_hosted link o.link ≡ true
  hosted =
      let mine = linked_by inc act o.link (find_passes (is_linked inc act) r.objects o found) in
      ap (is_hosted link) mine.1 ∙ (ap (λ (n : ℕ). n == link) mine.2 ∙ eq-eqb inc link same)

  not_holder : (holder : Claim) → who frame.ui.state ≡ Some holder → holder.object ≡ o.number → ⊥
  not_holder holder has named =
      let yes : is_of_server link r.objects (who frame.ui.state) ≡ true = ap (is_of_server link r.objects) has
      ∙ (ap (λ (n : ℕ). is_hosted_object link (find (is_object n) r.objects)) named
      ∙ (ap (is_hosted_object link) there ∙ hosted)) in
      let both = sym yes ∙ others in
      cc

  is_frame : (fr : Frame) → nth r.frames o.frame ≡ Some fr → o.frame ≡ f → fr ≡ frame
  is_frame fr inside here = (let both = sym inside ∙ (ap (nth r.frames) here ∙ at) in cc)

  -- an answer
  module _ (n : ℕ) (answer : Answer) (re : Replied) (goes : reply_link n answer o.link ≡ Ok re) where
    part_of : (told : Tells) (fr : Frame) → re.grant ≡ Some told → nth r.frames o.frame ≡ Some fr
        → IsToldBy (Some told) (role_in fr.ui.state o.number)
    part_of told fr e inside =
        let h = each_found (SteadyObject r) (is_linked inc act) r.objects o s.objects found in
        let a = some_and (Held r o.number o.link) (nth r.frames o.frame) h.linked in
        let both = sym a.1 ∙ inside in
        let is : a.0 ≡ fr = cc in
        subst (λ (z : Frame). IsToldBy (Some told) (role_in z.ui.state o.number)) is
        (subst (λ (z : Option Tells). IsToldBy z (role_in a.0.ui.state o.number)) e
        (link_goes r a.0 o.number n answer o.link re a.2 goes).stays.tells)

    told_elsewhere : (told : Tells) (fr : Frame) → re.grant ≡ Some told → nth r.frames o.frame ≡ Some fr
        → o.frame ≡ f → ⊥
    told_elsewhere (Gets g tools) fr e inside here =
        let k = getting_at fr.ui.state o.number g (part_of (Gets g tools) fr e inside) in
        not_holder k.claim (ap (λ (x : Frame). who x.ui.state) (sym (is_frame fr inside here)) ∙ ap who k.is) k.named
    told_elsewhere (GivesUp given) fr e inside here =
        let p = part_of (GivesUp given) fr e inside in
        let k = giving_at fr.ui.state o.number p.0 p.1 in
        not_holder k.holder (ap (λ (x : Frame). who x.ui.state) (sym (is_frame fr inside here)) ∙ ap who k.is) k.named

    by_stays : (told : Tells) (fr : Frame) (event : Option Event) → re.grant ≡ Some told
        → nth r.frames o.frame ≡ Some fr
        → Stays frame f (regranted_by (replied_record r inc act o re) o.frame fr event).rec.frames
    by_stays told fr None e inside = (frame, at, refl)
    by_stays told fr (Some event) e inside =
        let v : Record = record (replied_record r inc act o re) {
          frames =
              set_nth r.frames o.frame (moved fr event);
        } in
        subst (Stays frame f) (sym (granted_frames (passed_to fr.ui.state (after fr.ui event).state) v))
        (frame, nth-set_other r.frames o.frame f (moved fr event) (told_elsewhere told fr e inside) ∙ at, refl)

    in_stays : (told : Tells) (fr : Option Frame) → re.grant ≡ Some told → nth r.frames o.frame ≡ fr
        → Stays frame f (regranted_in (replied_record r inc act o re) o.frame told fr).rec.frames
    in_stays told None e inside = (frame, at, refl)
    in_stays told (Some fr) e inside = by_stays told fr (event_of fr.ui.state told) e inside

    granted_stays : (g : Option Tells) → re.grant ≡ g
        → Stays frame f (regranted (replied_record r inc act o re) o.frame g).rec.frames
    granted_stays None e = (frame, at, refl)
    granted_stays (Some told) e = in_stays told (nth r.frames o.frame) e refl

    reply_stays : (t : Took) → reply_made r inc act o re ≡ t → Stays frame f t.rec.frames
    reply_stays t e =
        let v = (replied_saving r inc act o re).rec in
        subst (λ (u : Took). Stays frame f u.rec.frames) e
        (settled_stays v.objects v.frames frame f
        (handed_stays (is_answered o.link re.link) (replied_grant r inc act o re).rec o.frame frame f
        (granted_stays re.grant refl)))

  -- it asks to be relieved of its frame
  asked_elsewhere : (g : ℕ) (fr : Frame) → nth r.frames o.frame ≡ Some fr → is_held_by act g fr.ui.state ≡ true
      → o.frame ≡ f → ⊥
  asked_elsewhere g fr inside held here =
      let h = held_by act g fr.ui.state held in
      let is = is_frame fr inside here in
      let has : who frame.ui.state ≡ Some h.0 = ap (λ (x : Frame). who x.ui.state) (sym is) ∙ ap who h.2 in
      let claim = if_at (IsClaim r f) (who frame.ui.state) h.0 has (s.grants f frame at).holder in
      let mine = linked_by inc act o.link (find_passes (is_linked inc act) r.objects o found) in
      not_holder h.0 has (acts_differ r.objects h.0.object o.number claim.object o claim.link mine.0 s.order
      claim.found there claim.linked mine.1 (claim.act ∙ (h.3 ∙ sym mine.3)))

  ask_stays : (g : ℕ) (fr : Option Frame) (t : Took) → nth r.frames o.frame ≡ fr → ask_framed r o act g fr ≡ Ok t
      → Stays frame f t.rec.frames
  ask_stays g None t inside e = cc
  ask_stays g (Some fr) t inside e =
      let b = taken_if (is_held_by act g fr.ui.state) _ Stale t e in
      let event : Event = grant.Ask (record { object = o.number; act = act; g = g }) in
      let v : Record = record r { frames = set_nth r.frames o.frame (moved fr event) } in
      subst (λ (u : Record). Stays frame f u.frames) (ok_rec _ t b.1)
      (subst (Stays frame f) (sym (requested_frames v UiDeactivate (find (is_object o.number) r.objects)))
      (frame, nth-set_other r.frames o.frame f (moved fr event) (asked_elsewhere g fr inside b.0) ∙ at, refl))

module _ (r : Record) (link : ℕ) (t : Took) (s : Steady r) (f : ℕ) (frame : Frame)
    (at : nth r.frames f ≡ Some frame) (others : is_of_server link r.objects (who frame.ui.state) ≡ false) where
  taken_stays : (inc act n : ℕ) (answer : Answer) (o : Object) (R : Result Replied ContainerFault) → inc ≡ link
      → find (is_linked inc act) r.objects ≡ Some o → reply_link n answer o.link ≡ R
      → reply_taken r inc act o R ≡ Ok t → Stays frame f t.rec.frames
  taken_stays inc act n answer o (Err fault) same found goes e = cc
  taken_stays inc act n answer o (Ok re) same found goes e =
      (let is : reply_made r inc act o re ≡ t = cc in reply_stays r link inc act f frame s same at others o found n
      answer re goes t is)

  found_stays : (inc act n : ℕ) (answer : Answer) (o : Option Object) → inc ≡ link
      → find (is_linked inc act) r.objects ≡ o → reply_found r inc act n answer o ≡ Ok t
      → Stays frame f t.rec.frames
  found_stays inc act n answer None same found e = cc
  found_stays inc act n answer (Some o) same found e = taken_stays inc act n answer o (reply_link n answer o.link)
      same found refl e

  ask_found_stays : (inc act g : ℕ) (o : Option Object) → inc ≡ link → find (is_linked inc act) r.objects ≡ o
      → ask_found r act g o ≡ Ok t → Stays frame f t.rec.frames
  ask_found_stays inc act g None same found e = cc
  ask_found_stays inc act g (Some o) same found e = ask_stays r link inc act f frame s same at others o found g
      (nth r.frames o.frame) t refl e

  frame_stays : (m : Said) → said_on r link m ≡ Ok t → Stays frame f t.rec.frames
  frame_stays (Call inc act n op) e = cc
  frame_stays (Reply inc act n answer) e =
      let a = taken_if (inc == link) (on_reply r inc act n answer) WrongLink t e in
      let b = taken_if (is_alive r inc) (reply_found r inc act n answer (find (is_linked inc act) r.objects)) Stale
      t a.1 in
      found_stays inc act n answer (find (is_linked inc act) r.objects) (eqb-true inc link a.0) refl b.1
  frame_stays (Write inc act n w content) e =
      let h = write_taken r link inc act n w content t e in
      (frame, ap (λ (u : Record). nth u.frames f) h.made ∙ at, refl)
  frame_stays (Ask inc act g) e =
      let a = taken_if (inc == link) (on_ask r inc act g) WrongLink t e in
      let b = taken_if (is_alive r inc) (ask_found r act g (find (is_linked inc act) r.objects)) Stale t a.1 in
      ask_found_stays inc act g (find (is_linked inc act) r.objects) (eqb-true inc link a.0) refl b.1

pub messages-stay_apart : MessagesStayApart
messages-stay_apart r link m t s e = record {
  objects = objects_stay r link m t s e;
  frames = λ f frame at others. frame_stays r link.inc t s f frame at others m.said (is_said_on r link m t e).said;
}

-- what is refused changes nothing
pub stays_as_it_was : (inc : ℕ) (r : Record) → StaysApart inc r r
stays_as_it_was inc r = record {
  objects = λ n o found other. (o, found, same_object o);
  frames = λ f frame at others. (frame, at, refl);
}
