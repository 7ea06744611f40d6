-- The laws of messages and of the end of a server.
use Rattle.std.proofs.Common.{◌≡◌, ◌≢◌, ◌==◌, ◌&&◌, inl, inr, ℕ, Bool, true, false, [], Option, Some, None, Ok, Err}
use Rattle.std.proofs.Common.{Result, refl, ap, sym, ◌∙◌, if◌then◌else◌, eq-eqb}
use Rattle.std.proofs.lemmas.Bool.{eqb-true, ne_eqb}
use Rattle.message_values.specs.Found.{find, nth}
use Rattle.message_values.specs.declared.answer.Answer.{Answer}
use Rattle.message_values.specs.declared.message.Said.{Said}
use Rattle.message_values.specs.declared.message.Said.TheVariants.{Call, Reply, Write, Ask}
use Rattle.message_values.specs.declared.operation.Operation.{Operation}
use Rattle.container_model.specs.declared.record.Link.{Link}
use Rattle.container_model.specs.declared.record.Object.{Object}
use Rattle.container_model.specs.declared.record.Frame.{Frame}
use Rattle.container_model.specs.declared.fault.ContainerFault.{ContainerFault}
use Rattle.container_model.specs.declared.fault.ContainerFault.TheVariants.{BadAnswer, Stale, WrongLink}
use Rattle.container_model.specs.Record.{Record, Took, is_alive, is_linked}
use Rattle.container_model.specs.Messages.{Replied, ask_found, ask_framed, is_fit, is_held_by, is_said_by, on_ask}
use Rattle.container_model.specs.Messages.{on_reply, replied, replied_fitting, replied_saving, reply_found, reply_link}
use Rattle.container_model.specs.Messages.{reply_pending, reply_taken}
use Rattle.container_model.proofs.SaidOn.{earlier_stale, is_said_on, other_refused, other_session_off, own_stale}
use Rattle.container_model.proofs.SaidOn.{said_on}
use Rattle.container_laws.specs.Laws.{EarlierSessionsAreStale, IsSaidAsExpected, OnlyExpectedMessages}
use Rattle.container_laws.specs.Laws.{OtherAsksAreStale, OtherServersAreRefused, OthersAreStale, is_held_in, is_open_in}
use Rattle.container_laws.specs.Laws.{pending_in, pending_number, server_of, takes_ask, takes_write}
use Rattle.container_laws.proofs.WriteLaws.{taken_if, write_taken}

-- a reply to another call than the pending one
stale_pending : (l : Link) (n : ℕ) (answer : Answer) (pending : Option Operation)
    → (elim pending [ None ↦ None | Some op ↦ Some l.last ]) ≢ Some n → reply_pending l n answer pending ≡ Err Stale
stale_pending l n answer None h = refl
stale_pending l n answer (Some op) h =
    let f : (n == l.last) ≡ false = ne_eqb n l.last (λ e. h (ap Some (sym e))) in
    rw f refl

stale_link : (n : ℕ) (answer : Answer) (link : Option Link) → pending_in link ≢ Some n
    → reply_link n answer link ≡ Err Stale
stale_link n answer None h = refl
stale_link n answer (Some l) h = stale_pending l n answer l.pending h

stale_found : (r : Record) (inc act n : ℕ) (answer : Answer) (o : Option Object) → pending_number o ≢ Some n
    → reply_found r inc act n answer o ≡ Err Stale
stale_found r inc act n answer None h = refl
stale_found r inc act n answer (Some o) h = rw (stale_link n answer o.link h) refl

stale_alive : (b : Bool) (R : Result Took ContainerFault) → R ≡ Err Stale → (if b then R else Err Stale) ≡ Err Stale
stale_alive true R e = e
stale_alive false R e = refl

pub others-are_stale : OthersAreStale
others-are_stale r session inc act n answer h = own_stale r session inc (Reply inc act n answer) (eq-eqb inc inc refl)
    (stale_alive (is_alive r inc) (reply_found r inc act n answer (find (is_linked inc act) r.objects))
    (stale_found r inc act n answer (find (is_linked inc act) r.objects) h))

-- the reply that moves a record answers the pending call
fit_of : (l : Link) (op : Operation) (answer : Answer) (x : Replied) → replied_fitting l op answer ≡ Ok x
    → is_fit answer ≡ true
fit_of l op answer x e = (taken_if (is_fit answer) (replied l op answer) BadAnswer x e).0

pending_of : (l : Link) (n : ℕ) (answer : Answer) (pending : Option Operation) (x : Replied)
    → reply_pending l n answer pending ≡ Ok x → ((elim pending [ None ↦ None | Some op ↦ Some l.last ]) ≡ Some n)
    × (is_fit answer ≡ true)
pending_of l n answer None x e = cc
pending_of l n answer (Some op) x e =
    let b = taken_if (n == l.last) (replied_fitting l op answer) Stale x e in
    (ap Some (sym (eqb-true n l.last b.0)), fit_of l op answer x b.1)

link_of : (n : ℕ) (answer : Answer) (link : Option Link) (x : Replied) → reply_link n answer link ≡ Ok x
    → (pending_in link ≡ Some n) × (is_fit answer ≡ true)
link_of n answer None x e = cc
link_of n answer (Some l) x e = pending_of l n answer l.pending x e

ask_framed_taken : (r : Record) (o : Object) (act g : ℕ) (f : Option Frame) (t : Took)
    → ask_framed r o act g f ≡ Ok t → is_held_in act g f ≡ true
ask_framed_taken r o act g None t e = cc
ask_framed_taken r o act g (Some frame) t e = (taken_if (is_held_by act g frame.ui.state) _ Stale t e).0

ask_taken : (r : Record) (act g : ℕ) (o : Option Object) (t : Took) → ask_found r act g o ≡ Ok t
    → takes_ask r act g o ≡ true
ask_taken r act g None t e = cc
ask_taken r act g (Some o) t e = ask_framed_taken r o act g (nth r.frames o.frame) t e

-- whoever doesn't hold its frame isn't relieved of it
ask_framed_stale : (r : Record) (o : Object) (act g : ℕ) (f : Option Frame) → is_held_in act g f ≡ false
    → ask_framed r o act g f ≡ Err Stale
ask_framed_stale r o act g None h = refl
ask_framed_stale r o act g (Some frame) h = rw h refl

ask_stale : (r : Record) (act g : ℕ) (o : Option Object) → takes_ask r act g o ≡ false → ask_found r act g o ≡ Err Stale
ask_stale r act g None h = refl
ask_stale r act g (Some o) h = ask_framed_stale r o act g (nth r.frames o.frame) h

pub other-asks_are_stale : OtherAsksAreStale
other-asks_are_stale r session inc act g h = own_stale r session inc (Ask inc act g) (eq-eqb inc inc refl)
    (stale_alive (is_alive r inc) (ask_found r act g (find (is_linked inc act) r.objects))
    (ask_stale r act g (find (is_linked inc act) r.objects) h))

pub taken_of : (r : Record) (inc act : ℕ) (o : Object) (R : Result Replied ContainerFault) (t : Took)
    → reply_taken r inc act o R ≡ Ok t → (x : Replied) × (R ≡ Ok x)
    × (t.rec.objects ≡ (replied_saving r inc act o x).rec.objects)
taken_of r inc act o (Err fault) t e = cc
taken_of r inc act o (Ok x) t e =
    (x, refl, sym (ap (λ (y : Result Took ContainerFault). elim y [ Ok z ↦ z.rec.objects | Err fault ↦ [] ]) e))

number_of : (r : Record) (inc act n : ℕ) (answer : Answer) (o : Option Object) (t : Took)
    → reply_found r inc act n answer o ≡ Ok t → (pending_number o ≡ Some n) × (is_fit answer ≡ true)
number_of r inc act n answer None t e = cc
number_of r inc act n answer (Some o) t e =
    let x = taken_of r inc act o (reply_link n answer o.link) t e in
    link_of n answer o.link x.0 x.1

-- what is said and taken is expected
pub only_expected : (r : Record) (link : ℕ) (m : Said) (t : Took) → said_on r link m ≡ Ok t → IsSaidAsExpected r link m
only_expected r link (Call inc act n op) t e = cc
only_expected r link (Reply inc act n answer) t e =
    let a = taken_if (inc == link) (on_reply r inc act n answer) WrongLink t e in
    let b = taken_if (is_alive r inc) (reply_found r inc act n answer (find (is_linked inc act) r.objects)) Stale t
    a.1 in
    let c = number_of r inc act n answer (find (is_linked inc act) r.objects) t b.1 in
    (eqb-true inc link a.0, b.0, c.0, c.1)
only_expected r link (Write inc act s w content) t e =
    let h = write_taken r link inc act s w content t e in
    (h.same, h.alive, ap (takes_write s w) h.found ∙ (ap (is_open_in s w) h.is ∙ h.opened), h.within)
only_expected r link (Ask inc act g) t e =
    let a = taken_if (inc == link) (on_ask r inc act g) WrongLink t e in
    let b = taken_if (is_alive r inc) (ask_found r act g (find (is_linked inc act) r.objects)) Stale t a.1 in
    (eqb-true inc link a.0, b.0, ask_taken r act g (find (is_linked inc act) r.objects) t b.1)

pub only-expected_messages : OnlyExpectedMessages
only-expected_messages r link m t e = (let h = is_said_on r link m t e in
    record { session = h.session; present = h.present; said = only_expected r link.inc m.said t h.said })

-- what another incarnation says
other_inc : (link : ℕ) (m : Said) → server_of m ≢ link → is_said_by link m ≡ false
other_inc link (Call inc act n op) h = refl
other_inc link (Reply inc act n answer) h = ne_eqb inc link h
other_inc link (Write inc act s w content) h = ne_eqb inc link h
other_inc link (Ask inc act g) h = ne_eqb inc link h

off_by : (a b : Bool) → b ≡ false → (a && b) ≡ false
off_by true b e = e
off_by false b e = refl

pub other-servers_are_refused : OtherServersAreRefused
other-servers_are_refused r link m (inl session) = other_refused r link m (other_session_off link m session)
other-servers_are_refused r link m (inr inc) =
    other_refused r link m (off_by (m.session == link.session) (is_said_by link.inc m.said)
    (other_inc link.inc m.said inc))

pub earlier-sessions_are_stale : EarlierSessionsAreStale
earlier-sessions_are_stale r link m own other = earlier_stale r link m own other
