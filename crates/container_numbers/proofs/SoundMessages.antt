-- Messages leave a record sound.
use Rattle.std.proofs.Common.{◌≡◌, ◌≤◌, ◌+◌, ◌==◌, ℕ, true, false, List, Option, Some, None, Result, Ok, Err, refl, sym}
use Rattle.std.proofs.Common.{◌∙◌, ap, subst, arith, if◌then◌else◌, cond}
use Rattle.std.proofs.lemmas.Bool.{eqb-true}
use Rattle.std.specs.Prelude.{IfSome}
use Rattle.message_values.specs.Found.{find, nth, set_nth}
use Rattle.message_values.specs.declared.operation.Operation.TheVariants.{UiDeactivate}
use Rattle.message_values.specs.declared.answer.Answer.{Answer}
use Rattle.message_values.specs.declared.message.Message.{Message}
use Rattle.message_values.specs.declared.message.Said.{Said}
use Rattle.message_values.specs.declared.message.Said.TheVariants.{Call, Reply, Write, Ask}
use Rattle.tree_streams.specs.Limits.{is_within}
use Rattle.tree_streams.specs.declared.stored.Stored.{Stored}
use Rattle.object_state.specs.Frames.{after}
use Rattle.object_state.specs.Grants as grant
use Rattle.object_state.specs.Grants.{Event, Revoked, who}
use Rattle.object_state.specs.declared.grant_states.Claim.{Claim}
use Rattle.object_state.specs.declared.grant_states.Tools.{Tools}
use Rattle.object_state.specs.declared.grant_states.GrantState.{GrantState}
use Rattle.object_state.specs.declared.grant_states.GrantState.TheVariants as state
use Rattle.container_model.proofs.SaidOn.{is_said_on, said_on}
use Rattle.container_model.specs.declared.server_link.ServerLink.{ServerLink}
use Rattle.container_model.specs.declared.grants.Tells.{Tells}
use Rattle.container_model.specs.declared.grants.Tells.TheVariants.{Gets, GivesUp}
use Rattle.container_model.specs.declared.record.Link.{Link}
use Rattle.container_model.specs.declared.record.Object.{Object}
use Rattle.container_model.specs.declared.record.Frame.{Frame}
use Rattle.container_model.specs.declared.fault.ContainerFault.{ContainerFault}
use Rattle.container_model.specs.declared.fault.ContainerFault.TheVariants.{WrongLink, Stale, BadAnswer}
use Rattle.container_model.specs.HandOffs.{hand_off_in, is_answered, unasked}
use Rattle.container_model.specs.Grants.{Requested, event_of, grant_each, grant_of, is_by, moved, passed_to, regranted}
use Rattle.container_model.specs.Grants.{regranted_by, regranted_in, request}
use Rattle.container_model.specs.Record.{Record, Took, is_alive, is_linked, is_object, with_frame}
use Rattle.container_model.specs.Room.{IfLinked, IsRoomy, grant_debt, HasNumbers}
use Rattle.container_model.specs.Saves.{settle}
use Rattle.container_model.specs.Messages.{Replied, ask_found, ask_framed, is_held_by, is_open_to, on_ask, on_reply}
use Rattle.container_model.specs.Messages.{on_write, relieved, replied_grant, replied_object, replied_record}
use Rattle.container_model.specs.Messages.{replied_saving, reply_found, reply_link, reply_taken, write_found}
use Rattle.container_model.specs.Messages.{write_link, write_made, written_object, on_message}
use Rattle.container_queues.specs.Roles.{IsClaim, SteadyGrant}
use Rattle.container_queues.specs.Steady.{Steady}
use Rattle.container_steady.proofs.SteadyFinds.{acts_differ, found_by_number}
use Rattle.container_queues.proofs.SteadyLookups.{each_both, each_found, each_nth, each_weaker}
use Rattle.container_steady.proofs.SteadyHolders.{asked_state, held_by, linked_by}
use Rattle.container_steady.proofs.SteadyTells.{if_told, ok_rec}
use Rattle.container_steady.proofs.SteadyTests.{find_passes}
use Rattle.container_numbers.proofs.SoundGrants.{IsToldOf, pays_told, told, told_waits}
use Rattle.container_numbers.proofs.SoundHandOffs.{hand_off_in_within}
use Rattle.container_numbers.proofs.SoundMoves.{FoundIn, all_found, granted_frames, granted_pays, move_owed, one_framed}
use Rattle.container_numbers.proofs.SoundMoves.{put_any, request_pays, requested_frames, waits_in}
use Rattle.container_numbers.proofs.SoundReplies.{IsRoomyAfter, reply_roomy}
use Rattle.container_numbers.proofs.SoundRooms.{IsSaved, Owing, Within, debts, owes_less, sound_of, within_of}
use Rattle.container_numbers.proofs.SoundSaves.{settled_sound}

-- ---- whoever is there owes less
found_less : {Greatest : ℕ → Type 0} (r : Record) (D E : ℕ → ℕ → ℕ) → Steady r → Within Greatest D r
    → ((x : Object) → FoundIn r.objects x → E x.number x.frame ≤ D x.number x.frame) → Within Greatest E r
found_less r D E s h le = record {
  limit = h.limit;
  room = each_weaker (λ x. Owing r.numbers D x × FoundIn r.objects x) (Owing r.numbers E) r.objects
      (λ x k. owes_less r.numbers D E x (le x k.1) k.0)
      (each_both (Owing r.numbers D) (FoundIn r.objects) r.objects h.room (all_found r.objects s.order));
  saves = h.saves;
  frames = h.frames;
  servers = h.servers;
  objects = h.objects;
  acts = h.acts;
  grants = h.grants;
  apart = h.apart;
}

-- ---- a reply
event_told : (s : GrantState) (t : Tells) → IfSome (event_of s t) IsToldOf
event_told s (Gets g tools) = tt
event_told s (GivesUp act) =
    elim (is_by act (who s)) as (λ b. IfSome (if b then Some (Revoked (grant_of s)) else None) IsToldOf) [
      | true ↦
          tt
      | false ↦ tt
    ]

module _ {Greatest : ℕ → Type 0} (r : Record) (inc act n : ℕ) (answer : Answer) (o : Object) (re : Replied)
    (s : Steady r) (h : HasNumbers Greatest r) (found : find (is_linked inc act) r.objects ≡ Some o)
    (is : reply_link n answer o.link ≡ Ok re) where
  -- whatever it owes, it owes on
  replied_within : (D : ℕ → ℕ → ℕ) → Within Greatest D r → Within Greatest D (replied_record r inc act o re)
  replied_within D w =
      let old : Owing r.numbers D o = each_found (Owing r.numbers D) (is_linked inc act) r.objects o w.room found in
      put_any r D (is_linked inc act) (replied_object o re) o w found refl
      (subst (λ (z : Result Replied ContainerFault). IsRoomyAfter r.numbers (D o.number o.frame) z) is
      (reply_roomy r.numbers (D o.number o.frame) n answer o.link old))

  unmoved : Within Greatest (debts r.frames) (replied_record r inc act o re)
  unmoved = replied_within (debts r.frames) (within_of r s h)

  module _ (frame : Frame) (e : Event) (at : nth r.frames o.frame ≡ Some frame) (tells : IsToldOf e) where
    abbrev cs : List Claim
    cs = passed_to frame.ui.state (after frame.ui e).state

    abbrev frames : List Frame
    frames = set_nth r.frames o.frame (moved frame e)

    abbrev D : ℕ → ℕ → ℕ
    D m g = debts frames m g + told cs m

    nobody : (x : Object) → FoundIn r.objects x → (x.frame ≡ o.frame → ⊥) → told cs x.number ≡ 0
    nobody x there ne = told_waits frame.ui.state (after frame.ui e).state x.number (pays_told frame.ui.state e tells)
        (λ c waits q. ne (waits_in r o.frame frame s at x there c waits q))

    pays : (x : Object) → FoundIn r.objects x → D x.number x.frame ≤ debts r.frames x.number x.frame
    pays x there = move_owed r.frames o.frame frame (moved frame e) x.number x.frame (told cs x.number) at refl
        (pays_told frame.ui.state e tells x.number) (nobody x there)

    abbrev u : Record
    u = with_frame (replied_record r inc act o re) o.frame (moved frame e)

    framed : Within Greatest D u
    framed =
        let w = within_of r s h in
        let k : frame.k ≤ r.numbers = each_nth (IsSaved r.numbers) r.frames o.frame frame w.saves at in
        one_framed (replied_record r inc act o re) D o.frame (moved frame e)
        (replied_within D (found_less r (debts r.frames) D s w pays)) k

    regrants : Within Greatest (debts (grant_each u cs).rec.frames) (grant_each u cs).rec
    regrants = (subst (λ (fs : List Frame). Within Greatest (debts fs) (grant_each u cs).rec)
        (sym (granted_frames cs u)) (granted_pays cs u (debts frames) framed))

  abbrev Owes : Record → Type 0
  Owes x = Within Greatest (debts x.frames) x

  moved_as : (frame : Frame) (e : Option Event) → nth r.frames o.frame ≡ Some frame → IfSome e IsToldOf
      → Owes (regranted_by (replied_record r inc act o re) o.frame frame e).rec
  moved_as frame None at told = unmoved
  moved_as frame (Some e) at told = regrants frame e at told

  moved_in : (t : Tells) (f : Option Frame) → nth r.frames o.frame ≡ f
      → Owes (regranted_in (replied_record r inc act o re) o.frame t f).rec
  moved_in t None at = unmoved
  moved_in t (Some frame) at = moved_as frame (event_of frame.ui.state t) at (event_told frame.ui.state t)

  moved_by : (t : Option Tells) → Owes (regranted (replied_record r inc act o re) o.frame t).rec
  moved_by None = unmoved
  moved_by (Some t) = moved_in t (nth r.frames o.frame) refl

taken_sound : {Greatest : ℕ → Type 0} (r : Record) (inc act n : ℕ) (answer : Answer) (o : Object)
    (res : Result Replied ContainerFault) (t : Took) → Steady r → HasNumbers Greatest r
    → find (is_linked inc act) r.objects ≡ Some o → reply_link n answer o.link ≡ res
    → reply_taken r inc act o res ≡ Ok t → HasNumbers Greatest t.rec
taken_sound r inc act n answer o (Err fault) t s h found g e = cc
taken_sound {Greatest} r inc act n answer o (Ok re) t s h found g e =
    let same : settle (replied_saving r inc act o re).rec ≡ t.rec = ok_rec _ t e in
    let moved = moved_by r inc act n answer o re s h found g re.grant in
    subst (HasNumbers Greatest) same (settled_sound (replied_saving r inc act o re).rec
    (if_told (λ (z : Requested). Within Greatest (debts z.rec.frames) z.rec) (is_answered o.link re.link)
    (hand_off_in (replied_grant r inc act o re).rec o.frame) (unasked (replied_grant r inc act o re).rec)
    (λ b. hand_off_in_within (replied_grant r inc act o re).rec o.frame moved)
    (λ b. moved)))

found_sound : {Greatest : ℕ → Type 0} (r : Record) (inc act n : ℕ) (answer : Answer) (o : Option Object) (t : Took)
    → Steady r → HasNumbers Greatest r → find (is_linked inc act) r.objects ≡ o
    → reply_found r inc act n answer o ≡ Ok t → HasNumbers Greatest t.rec
found_sound r inc act n answer None t s h found e = cc
found_sound r inc act n answer (Some o) t s h found e = taken_sound r inc act n answer o
    (reply_link n answer o.link) t s h found refl e

reply_sound : {Greatest : ℕ → Type 0} (r : Record) (inc act n : ℕ) (answer : Answer) (t : Took) → Steady r
    → HasNumbers Greatest r → on_reply r inc act n answer ≡ Ok t → HasNumbers Greatest t.rec
reply_sound {Greatest} r inc act n answer t s h e =
    if_told (λ (z : Result Took ContainerFault). z ≡ Ok t → HasNumbers Greatest t.rec) (is_alive r inc)
    (reply_found r inc act n answer (find (is_linked inc act) r.objects)) (Err Stale)
    (λ a g. found_sound r inc act n answer (find (is_linked inc act) r.objects) t s h refl g)
    (λ a g. cc) e

-- ---- a write
written_sound : {Greatest : ℕ → Type 0} (r : Record) (inc act w : ℕ) (content : Stored) (o : Object) (l : Link)
    → Steady r → HasNumbers Greatest r → find (is_linked inc act) r.objects ≡ Some o → o.link ≡ Some l
    → HasNumbers Greatest (write_made r inc act o l w content).rec
written_sound r inc act w content o l s h found is =
    let all = within_of r s h in
    let old : IsRoomy r.numbers (debts r.frames o.number o.frame) l =
    subst (IfLinked (IsRoomy r.numbers (debts r.frames o.number o.frame))) is
    (each_found (Owing r.numbers (debts r.frames)) (is_linked inc act) r.objects o all.room found) in
    sound_of (write_made r inc act o l w content).rec
    (put_any r (debts r.frames) (is_linked inc act) (written_object o l w content) o all found refl
    (record { calls = old.calls; grants = old.grants }))

write_linked_sound : {Greatest : ℕ → Type 0} (r : Record) (inc act n w : ℕ) (content : Stored) (o : Object)
    (link : Option Link) (t : Took) → Steady r → HasNumbers Greatest r → find (is_linked inc act) r.objects ≡ Some o
    → o.link ≡ link → write_link r inc act n w content o link ≡ Ok t → HasNumbers Greatest t.rec
write_linked_sound r inc act n w content o None t s h found is e = cc
write_linked_sound {Greatest} r inc act n w content o (Some l) t s h found is e =
    if_told (λ (z : Result Took ContainerFault). z ≡ Ok t → HasNumbers Greatest t.rec) (is_open_to l n w)
    (if is_within content then Ok (write_made r inc act o l w content) else Err BadAnswer) (Err Stale)
    (λ a g. if_told (λ (z : Result Took ContainerFault). z ≡ Ok t → HasNumbers Greatest t.rec) (is_within content)
    (Ok (write_made r inc act o l w content)) (Err BadAnswer)
    (λ b q. subst (HasNumbers Greatest) (ok_rec (write_made r inc act o l w content) t q)
    (written_sound r inc act w content o l s h found is))
    (λ b q. cc) g)
    (λ a g. cc) e

write_found_sound : {Greatest : ℕ → Type 0} (r : Record) (inc act n w : ℕ) (content : Stored) (o : Option Object)
    (t : Took) → Steady r → HasNumbers Greatest r → find (is_linked inc act) r.objects ≡ o
    → write_found r inc act n w content o ≡ Ok t → HasNumbers Greatest t.rec
write_found_sound r inc act n w content None t s h found e = cc
write_found_sound r inc act n w content (Some o) t s h found e =
    write_linked_sound r inc act n w content o o.link t s h found refl e

write_sound : {Greatest : ℕ → Type 0} (r : Record) (inc act n w : ℕ) (content : Stored) (t : Took) → Steady r
    → HasNumbers Greatest r → on_write r inc act n w content ≡ Ok t → HasNumbers Greatest t.rec
write_sound {Greatest} r inc act n w content t s h e =
    if_told (λ (z : Result Took ContainerFault). z ≡ Ok t → HasNumbers Greatest t.rec) (is_alive r inc)
    (write_found r inc act n w content (find (is_linked inc act) r.objects)) (Err Stale)
    (λ a g. write_found_sound r inc act n w content (find (is_linked inc act) r.objects) t s h refl g)
    (λ a g. cc) e

-- ---- an ask
-- who has the frame pays as it is told to give it up
ends_pays : (s t : GrantState) (holder : Claim) (tools : Tools) (n m : ℕ) → s ≡ state.Held holder tools
    → t ≡ state.Revoking holder None → holder.object ≡ n → grant_debt m t + cond (n == m) 1 0 ≤ grant_debt m s
ends_pays s t holder tools n m e q named =
    rw (e, q) (subst (λ (i : ℕ). 0 + cond (i == m) 1 0 ≤ grant_debt m (state.Held holder tools)) named
    (elim (holder.object == m) as (λ b. 0 + cond b 1 0 ≤ (if b then 1 else 0)) [
      | true ↦ omega arith
      | false ↦
          omega arith
    ]))

one_place : (os : List Object) (o x : Object) → FoundIn os o → FoundIn os x → o.number ≡ x.number → x.frame ≡ o.frame
one_place os o x there here e =
    let both = sym there ∙ (ap (λ (n : ℕ). find (is_object n) os) e ∙ here) in
    let same : o ≡ x = cc in
    ap (λ (z : Object). z.frame) (sym same)

asks_alone : (os : List Object) (o x : Object) → FoundIn os o → FoundIn os x → (x.frame ≡ o.frame → ⊥)
    → ◌≡◌ {A = ℕ} (cond (o.number == x.number) 1 0) 0
asks_alone os o x there here ne = elim (o.number == x.number) as (λ b. (o.number == x.number) ≡ b
    → ◌≡◌ {A = ℕ} (cond b 1 0) 0) [
      | true ↦ (λ t. absurd (ne (one_place os o x there here (eqb-true o.number x.number t))))
      | false ↦ (λ t. refl)
    ] refl

ask_held : {Greatest : ℕ → Type 0} (r : Record) (inc act g : ℕ) (o : Object) (frame : Frame) → Steady r
    → HasNumbers Greatest r → find (is_linked inc act) r.objects ≡ Some o → nth r.frames o.frame ≡ Some frame
    → is_held_by act g frame.ui.state ≡ true → HasNumbers Greatest (relieved r o act g frame).rec
ask_held {Greatest} r inc act g o frame s h found at e =
    let held = held_by act g frame.ui.state e in
    let holder = held.0 in
    let tools = held.1 in
    let l = linked_by inc act o.link (find_passes (is_linked inc act) r.objects o found) in
    let there : FoundIn r.objects o = found_by_number (is_linked inc act) r.objects o s.order found in
    let claim : IsClaim r o.frame holder = (subst (SteadyGrant r o.frame) held.2 (s.grants o.frame frame at)).holder in
    let named : holder.object ≡ o.number = acts_differ r.objects holder.object o.number claim.object o claim.link
    l.0 s.order claim.found there claim.linked l.1 (claim.act ∙ (held.3 ∙ sym l.3)) in
    let event : Event = grant.Ask (record { object = o.number; act = act; g = g }) in
    let next : Frame = moved frame event in
    let to : next.ui.state ≡ state.Revoking holder None = asked_state frame.ui.state holder tools o.number act g
    held.2 held.3 held.4 in
    let w = within_of r s h in
    let k : frame.k ≤ r.numbers = each_nth (IsSaved r.numbers) r.frames o.frame frame w.saves at in
    let frames : List Frame = set_nth r.frames o.frame next in
    let u : Record = with_frame r o.frame next in
    let less = found_less r (debts r.frames) (λ m f. debts frames m f + cond (o.number == m) 1 0) s w
    (λ x here. move_owed r.frames o.frame frame next x.number x.frame (cond (o.number == x.number) 1 0) at refl
    (ends_pays frame.ui.state next.ui.state holder tools o.number x.number held.2 to named)
    (asks_alone r.objects o x there here)) in
    let asked : Within Greatest (debts frames) (request u o.number UiDeactivate).rec =
    request_pays u (debts frames) o.number UiDeactivate
    (one_framed r (λ m f. debts frames m f + cond (o.number == m) 1 0) o.frame next less k) in
    sound_of (request u o.number UiDeactivate).rec
    (subst (λ (fs : List Frame). Within Greatest (debts fs) (request u o.number UiDeactivate).rec)
    (sym (requested_frames u UiDeactivate (find (is_object o.number) u.objects))) asked)

ask_framed_sound : {Greatest : ℕ → Type 0} (r : Record) (inc act g : ℕ) (o : Object) (f : Option Frame) (t : Took)
    → Steady r → HasNumbers Greatest r → find (is_linked inc act) r.objects ≡ Some o → nth r.frames o.frame ≡ f
    → ask_framed r o act g f ≡ Ok t → HasNumbers Greatest t.rec
ask_framed_sound r inc act g o None t s h found at e = cc
ask_framed_sound {Greatest} r inc act g o (Some frame) t s h found at e =
    if_told (λ (z : Result Took ContainerFault). z ≡ Ok t → HasNumbers Greatest t.rec)
    (is_held_by act g frame.ui.state) _ (Err Stale)
    (λ a q. let same = ok_rec _ t q in subst (HasNumbers Greatest) same (ask_held r inc act g o frame s h found at a))
    (λ a q. cc) e

ask_found_sound : {Greatest : ℕ → Type 0} (r : Record) (inc act g : ℕ) (o : Option Object) (t : Took) → Steady r
    → HasNumbers Greatest r → find (is_linked inc act) r.objects ≡ o → ask_found r act g o ≡ Ok t
    → HasNumbers Greatest t.rec
ask_found_sound r inc act g None t s h found e = cc
ask_found_sound r inc act g (Some o) t s h found e = ask_framed_sound r inc act g o (nth r.frames o.frame) t s h
    found refl e

ask_sound : {Greatest : ℕ → Type 0} (r : Record) (inc act g : ℕ) (t : Took) → Steady r → HasNumbers Greatest r
    → on_ask r inc act g ≡ Ok t → HasNumbers Greatest t.rec
ask_sound {Greatest} r inc act g t s h e = if_told (λ (z : Result Took ContainerFault). z ≡ Ok t
    → HasNumbers Greatest t.rec) (is_alive r inc) (ask_found r act g (find (is_linked inc act) r.objects))
    (Err Stale)
    (λ a q. ask_found_sound r inc act g (find (is_linked inc act) r.objects) t s h refl q)
    (λ a q. cc) e

-- whatever is said leaves a record sound
said_keep : {Greatest : ℕ → Type 0} (r : Record) (link : ℕ) (m : Said) (t : Took) → Steady r → HasNumbers Greatest r
    → said_on r link m ≡ Ok t → HasNumbers Greatest t.rec
said_keep r link (Call inc act n op) t s h e = cc
said_keep {Greatest} r link (Reply inc act n answer) t s h e =
    if_told (λ (z : Result Took ContainerFault). z ≡ Ok t → HasNumbers Greatest t.rec) (inc == link)
    (on_reply r inc act n answer) (Err WrongLink)
    (λ a g. reply_sound r inc act n answer t s h g)
    (λ a g. cc) e
said_keep {Greatest} r link (Write inc act n w content) t s h e =
    if_told (λ (z : Result Took ContainerFault). z ≡ Ok t → HasNumbers Greatest t.rec) (inc == link)
    (on_write r inc act n w content) (Err WrongLink)
    (λ a g. write_sound r inc act n w content t s h g)
    (λ a g. cc) e
said_keep {Greatest} r link (Ask inc act g) t s h e =
    if_told (λ (z : Result Took ContainerFault). z ≡ Ok t → HasNumbers Greatest t.rec) (inc == link)
    (on_ask r inc act g) (Err WrongLink)
    (λ a q. ask_sound r inc act g t s h q)
    (λ a q. cc) e

-- each message leaves a record sound
pub messages_keep : {Greatest : ℕ → Type 0} (r : Record) (link : ServerLink) (m : Message) (t : Took) → Steady r
    → HasNumbers Greatest r → on_message r link m ≡ Ok t → HasNumbers Greatest t.rec
messages_keep r link m t s h e = said_keep r link.inc m.said t s h (is_said_on r link m t e).said
