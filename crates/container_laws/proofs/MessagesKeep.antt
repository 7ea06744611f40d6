-- A message to a steady record leaves other objects as they are, but for one that waited for its frame.
use Rattle.std.proofs.Common.{◌≡◌, inl, inr, ℕ, ◌==◌, Bool, true, false, List, [], ◌∷◌, Option, Some, None, Ok, Err}
use Rattle.std.proofs.Common.{slice_get, refl, sym, ap, ◌∙◌, subst, if◌then◌else◌}
use Rattle.message_values.specs.Found.{find, nth, put, set_nth}
use Rattle.message_values.specs.declared.answer.Answer.{Answer}
use Rattle.message_values.specs.declared.message.Said.{Said}
use Rattle.message_values.specs.declared.message.Said.TheVariants.{Call, Reply, Write, Ask}
use Rattle.message_values.specs.declared.operation.Operation.TheVariants.{UiDeactivate}
use Rattle.object_state.specs.Frames.{after, kept}
use Rattle.object_state.specs.Grants as grant
use Rattle.object_state.specs.Grants.{Event, Revoked, passed_on, table, waiting, who}
use Rattle.object_state.specs.declared.grant_faults.GrantFault.TheVariants.{NotHolder}
use Rattle.object_state.specs.declared.grant_states.Claim.{Claim}
use Rattle.object_state.specs.declared.grant_states.GrantState.{GrantState}
use Rattle.object_state.specs.declared.grant_states.GrantState.TheVariants as state
use Rattle.container_model.specs.declared.grants.Tells.{Tells}
use Rattle.container_model.specs.declared.grants.Tells.TheVariants.{Gets, GivesUp}
use Rattle.container_model.specs.declared.record.Object.{Object}
use Rattle.container_model.specs.declared.record.Frame.{Frame}
use Rattle.container_model.specs.declared.fault.ContainerFault.TheVariants.{Stale, WrongLink}
use Rattle.container_model.specs.Grants.{event_of, grant_each, grant_of, is_by, moved, passed_to, regranted}
use Rattle.container_model.specs.Grants.{regranted_by, regranted_in}
use Rattle.container_model.specs.HandOffs.{hand_off_in, is_answered, unasked}
use Rattle.container_model.specs.Record.{Record, Took, is_alive, is_linked, is_object}
use Rattle.container_model.specs.Messages.{Replied, ask_found, ask_framed, is_held_by, on_ask, on_reply, relieved}
use Rattle.container_model.specs.Messages.{replied_grant, replied_object, replied_record, reply_found, reply_link}
use Rattle.container_model.specs.Messages.{reply_taken, written_object}
use Rattle.container_model.proofs.SaidOn.{is_said_on, said_on}
use Rattle.container_laws.specs.Laws.{StaysOrIsAsked, StaysOrIsGranted, is_about, MessagesKeepOthers}
use Rattle.container_queues.specs.Roles.{IsClaim}
use Rattle.container_queues.specs.Steady.{EachPair, InOrder, Steady, SteadyObject}
use Rattle.container_laws.proofs.KeepLaws.{IsTold, as_before, of_grant, all_among, grants_tell, order_put, put_keeps}
use Rattle.container_laws.proofs.KeepLaws.{request_keeps}
use Rattle.container_laws.proofs.HandLaws.{regranted_same, to_asked}
use Rattle.container_laws.proofs.MessageLaws.{taken_of}
use Rattle.container_steady.proofs.SteadyFinds.{found_by_number, put_by_number}
use Rattle.container_queues.proofs.SteadyLookups.{each_found, each_get}
use Rattle.container_steps.proofs.HandedOff.{in_tells}
use Rattle.container_steps.proofs.SteadyMessages.{AnswersSteadily, link_goes, took}
use Rattle.container_steps.proofs.SteadyReaps.{each_own, passed_few}
use Rattle.container_steady.proofs.SteadyRecords.{Held, if_at, some_and}
use Rattle.container_steady.proofs.SteadyTells.{ok_rec}
use Rattle.container_steady.proofs.SteadyTests.{find_passes}
use Rattle.container_laws.proofs.WriteLaws.{taken_if, write_taken}

-- whoever is granted a frame by an answer waited for it
passed_on_waits : (c : Claim) (next : Option Claim) (b : Bool) (d : Claim)
    → passed_to (state.Revoking c next)
    (kept (state.Revoking c next) (if b then Ok (passed_on next) else Err NotHolder)) ≡ d ∷ [] → next ≡ Some d
passed_on_waits c None b d e = cc
passed_on_waits c (Some w) true d e = (let same : w ≡ d = cc in ap (λ (z : Claim). Some z) same)
passed_on_waits c (Some w) false d e = cc

-- whom an event of a frame's grant passes it to
revoked_waits : (s : GrantState) (d : Claim) → passed_to s (kept s (table s (Revoked (grant_of s)))) ≡ d ∷ []
    → waiting s ≡ Some d
revoked_waits state.Free d e = cc
revoked_waits (state.Granting c) d e = cc
revoked_waits (state.Held c tools) d e = cc
revoked_waits (state.Revoking c None) d e = cc
revoked_waits (state.Revoking c (Some w)) d e = passed_on_waits c (Some w) (c.g == c.g) d e

abbrev passed_by : GrantState → Option Event → List Claim
passed_by s None = []
passed_by s (Some e) = passed_to s (kept s (table s e))

given_waits : (s : GrantState) (b : Bool) (d : Claim)
    → passed_by s (if b then Some (Revoked (grant_of s)) else None) ≡ d ∷ [] → waiting s ≡ Some d
given_waits s true d e = revoked_waits s d e
given_waits s false d e = cc

passed_waits : (s : GrantState) (told : Tells) (d : Claim) → passed_by s (event_of s told) ≡ d ∷ [] → waiting s ≡ Some d
passed_waits state.Free (Gets g tools) d e = cc
passed_waits (state.Granting c) (Gets g tools) d e = cc
passed_waits (state.Held c tools) (Gets g had) d e = cc
passed_waits (state.Revoking c None) (Gets g tools) d e = cc
passed_waits (state.Revoking c (Some w)) (Gets g tools) d e = cc
passed_waits s (GivesUp act) d e = given_waits s (is_by act (who s)) d e

abbrev Later : Record → List Object → ℕ → Object → Type 0
Later r os i o = (later : Object) × (slice_get os i ≡ Some later) × StaysOrIsGranted r o later

abbrev Asked : Record → List Object → ℕ → Object → Type 0
Asked r os i o = (later : Object) × (slice_get os i ≡ Some later) × StaysOrIsAsked r o later

module _ (r : Record) (s : Steady r) (i : ℕ) (o : Object) (at : slice_get r.objects i ≡ Some o) (inc act : ℕ)
    (other : is_linked inc act o ≡ false) where
  own : find (is_object o.number) r.objects ≡ Some o
  own = each_get (λ (x : Object). find (is_object x.number) r.objects ≡ Some x) r.objects i o
      (each_own r.objects s.order) at

  module _ (p : Object) (found : find (is_linked inc act) r.objects ≡ Some p) where
    there : find (is_object p.number) r.objects ≡ Some p
    there = found_by_number (is_linked inc act) r.objects p s.order found

    apart : p.number ≡ o.number → ⊥
    apart e =
        let both = sym there ∙ (ap (λ (n : ℕ). find (is_object n) r.objects) e ∙ own) in
        let same : p ≡ o = cc in
        let yes : is_linked inc act o ≡ true = subst (λ (x : Object). is_linked inc act x ≡ true) same
        (find_passes (is_linked inc act) r.objects p found) in
        let bad = sym yes ∙ other in
        cc

    module _ (re : Replied) (frame : Frame) (inside : nth r.frames p.frame ≡ Some frame)
        (goes : AnswersSteadily r frame p.number p.link re) where
      abbrev x : Object
      x = replied_object p re

      stays : slice_get (put (is_linked inc act) x r.objects) i ≡ Some o
      stays = put_keeps (is_linked inc act) x r.objects i o at other

      ordered : EachPair InOrder (put (is_linked inc act) x r.objects)
      ordered = subst (EachPair InOrder) (sym (put_by_number (is_linked inc act) x p r.objects s.order found))
          (order_put r.objects p x s.order there (took r inc act p re frame s found inside goes))

      is_told : (c : Claim) (later : Object) → waiting frame.ui.state ≡ Some c → IsTold (c ∷ []) o later
          → StaysOrIsGranted r o later
      is_told c later waits (as_before e) = inl e
      is_told c later waits (of_grant d a named e) =
          let is : d ≡ c = all_among (λ (z : Claim). z ≡ c) (c ∷ []) d (refl, tt) a in
          let k = if_at (IsClaim r p.frame) (waiting frame.ui.state) c waits (s.grants p.frame frame inside).next in
          let both = sym k.found
          ∙ (ap (λ (n : ℕ). find (is_object n) r.objects) (ap (λ (z : Claim). z.object) (sym is) ∙ named)
          ∙ own) in
          let same : k.object ≡ o = cc in
          inr (record {
            frame = frame;
            claim = d;
            inside = ap (λ (y : Object). nth r.frames y.frame) (sym same) ∙ (ap (nth r.frames) k.inside ∙ inside);
            waited = waits ∙ ap (λ (z : Claim). Some z) (sym is);
            named = named;
            told = e;
          })

      granted_by : (told : Tells) (event : Option Event) → event_of frame.ui.state told ≡ event
          → Later r (regranted_by (replied_record r inc act p re) p.frame frame event).rec.objects i o
      granted_by told None is = (o, stays, inl refl)
      granted_by told (Some event) is =
          let v : Record = record (replied_record r inc act p re) {
            frames =
                set_nth r.frames p.frame (moved frame event);
          } in
          let cs = passed_to frame.ui.state (after frame.ui event).state in
          elim (passed_few frame.ui.state (after frame.ui event).state) [
            | inl none ↦ subst (λ (ds : List Claim). Later r (grant_each v ds).rec.objects i o) (sym none)
                (o, stays, inl refl)
            | inr one ↦ (let t = grants_tell (one.0 ∷ []) v i o (tt, tt) ordered stays in
                let waits : waiting frame.ui.state ≡ Some one.0 = passed_waits frame.ui.state told one.0
                (ap (passed_by frame.ui.state) is ∙ one.1) in
                subst (λ (ds : List Claim). Later r (grant_each v ds).rec.objects i o) (sym one.1)
                (t.0, t.1, is_told one.0 t.0 waits t.2))
          ]

      granted : (told : Tells) → Later r (regranted (replied_record r inc act p re) p.frame (Some told)).rec.objects i o
      granted told =
          subst (λ (z : Option Frame). Later r (regranted_in (replied_record r inc act p re) p.frame told
          z).rec.objects i o) (sym inside) (granted_by told (event_of frame.ui.state told) refl)

      answered : (g : Option Tells) → Later r (regranted (replied_record r inc act p re) p.frame g).rec.objects i o
      answered None = (o, stays, inl refl)
      answered (Some told) = granted told

    -- and then its frame may hand off
    handed : (re : Replied) (b : Bool) → Later r (replied_grant r inc act p re).rec.objects i o
        → Asked r (if b then hand_off_in (replied_grant r inc act p re).rec p.frame
        else unasked (replied_grant r inc act p re).rec).rec.objects i o
    handed re false h = (h.0, h.1, (h.0, h.2, inl refl))
    handed re true h =
        let v = (replied_grant r inc act p re).rec in
        let t = in_tells v p.frame i h.0 h.1 in (
          t.0,
          t.1,
          to_asked r v.frames o h.0 t.0 (regranted_same (replied_record r inc act p re) p.frame re.grant)
              h.2 t.2,
        )

    reply_others : (n : ℕ) (answer : Answer) (t : Took) → reply_taken r inc act p (reply_link n answer p.link)
        ≡ Ok t → Asked r t.rec.objects i o
    reply_others n answer t e =
        let y = taken_of r inc act p (reply_link n answer p.link) t e in
        let h = each_found (SteadyObject r) (is_linked inc act) r.objects p s.objects found in
        let a = some_and (Held r p.number p.link) (nth r.frames p.frame) h.linked in
        subst (λ (os : List Object). Asked r os i o) (sym y.2)
        (handed y.0 (is_answered p.link y.0.link)
        (answered y.0 a.0 a.1 (link_goes r a.0 p.number n answer p.link y.0 a.2 y.1) y.0.grant))

    ask_others : (g : ℕ) (fr : Option Frame) (t : Took) → ask_framed r p act g fr ≡ Ok t → Asked r t.rec.objects i o
    ask_others g None t e = cc
    ask_others g (Some fr) t e =
        let b = taken_if (is_held_by act g fr.ui.state) _ Stale t e in
        let v : Record =
        record r {
          frames = set_nth r.frames p.frame
              (moved fr (grant.Ask (record { object = p.number; act = act; g = g })));
        } in
        let kept : slice_get (relieved r p act g fr).rec.objects i ≡ Some o =
        request_keeps v UiDeactivate p.number (find (is_object p.number) r.objects) i o refl apart at in
        subst (λ (u : Record). Asked r u.objects i o) (ok_rec _ t b.1) (o, kept, (o, inl refl, inl refl))

  reply_found_others : (n : ℕ) (answer : Answer) (p : Option Object) (t : Took)
      → find (is_linked inc act) r.objects ≡ p → reply_found r inc act n answer p ≡ Ok t → Asked r t.rec.objects i o
  reply_found_others n answer None t found e = cc
  reply_found_others n answer (Some p) t found e = reply_others p found n answer t e

  ask_found_others : (g : ℕ) (p : Option Object) (t : Took) → find (is_linked inc act) r.objects ≡ p
      → ask_found r act g p ≡ Ok t → Asked r t.rec.objects i o
  ask_found_others g None t found e = cc
  ask_found_others g (Some p) t found e = ask_others p found g (nth r.frames p.frame) t e

pub said_keep_others : (r : Record) (link : ℕ) (m : Said) (t : Took) → Steady r → said_on r link m ≡ Ok t
    → (i : ℕ) (o : Object) → slice_get r.objects i ≡ Some o → is_about m o ≡ false
    → (later : Object) × (slice_get t.rec.objects i ≡ Some later) × StaysOrIsAsked r o later
said_keep_others r link (Call inc act n op) t s e i o at other = cc
said_keep_others r link (Reply inc act n answer) t s e i o at other =
    let a = taken_if (inc == link) (on_reply r inc act n answer) WrongLink t e in
    let b = taken_if (is_alive r inc) (reply_found r inc act n answer (find (is_linked inc act) r.objects)) Stale t
    a.1 in
    reply_found_others r s i o at inc act other n answer (find (is_linked inc act) r.objects) t refl b.1
said_keep_others r link (Write inc act n w content) t s e i o at other =
    let h = write_taken r link inc act n w content t e in
    let made : t.rec.objects ≡ put (is_linked inc act) (written_object h.o h.l w content) r.objects =
    ap (λ (z : Record). z.objects) h.made in (
      o,
      ap (λ (os : List Object). slice_get os i) made ∙ put_keeps (is_linked inc act)
          (written_object h.o h.l w content) r.objects i o at other,
      (o, inl refl, inl refl),
    )
said_keep_others r link (Ask inc act g) t s e i o at other =
    let a = taken_if (inc == link) (on_ask r inc act g) WrongLink t e in
    let b = taken_if (is_alive r inc) (ask_found r act g (find (is_linked inc act) r.objects)) Stale t a.1 in
    ask_found_others r s i o at inc act other g (find (is_linked inc act) r.objects) t refl b.1

pub messages-keep_others : MessagesKeepOthers
messages-keep_others r link m t s e i o at other = said_keep_others r link.inc m.said t s
    (is_said_on r link m t e).said i o at other
