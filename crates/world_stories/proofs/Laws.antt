-- A message of an earlier session changes neither the record nor a server of the present run.
use Rattle.std.proofs.Common.{◌≡◌, ◌≢◌, ◌==◌, ◌&&◌, not, ℕ, zero, suc, true, false, List, [], ◌∷◌, ◌++◌, Option, Some}
use Rattle.std.proofs.Common.{None, Result, Ok, Err, refl, sym, ap, ◌∙◌, subst, inl, inr, append-nil, if◌then◌else◌}
use Rattle.std.proofs.Common.{ne_eqb, slice_get}
use Rattle.std.proofs.lemmas.Bool.Decides.{eqb_tells}
use Rattle.message_values.specs.Found.{find, nth, put}
use Rattle.message_values.specs.declared.message.Message.{Message}
use Rattle.message_values.specs.declared.message.Said.{Said}
use Rattle.message_values.specs.declared.message.Said.TheVariants.{Call, Reply, Write, Ask}
use Rattle.container_model.specs.Messages.{is_said_by, on_message, said_to}
use Rattle.container_model.specs.Record.{Record, unless}
use Rattle.container_model.specs.declared.fault.ContainerFault.{ContainerFault}
use Rattle.container_model.specs.declared.fault.ContainerFault.TheVariants.{Stale, WrongLink}
use Rattle.container_model.specs.declared.server_link.ServerLink.{ServerLink}
use Rattle.world_model.specs.declared.event.Event.TheVariants as event
use Rattle.world_model.specs.declared.event.Stop.{Stop}
use Rattle.world_model.specs.declared.logs.Sent.{Sent}
use Rattle.world_model.specs.Safe.{messages}
use Rattle.world_model.specs.World.{World, deliver, delivered, forge, forged_on, link_of, link_to, taken_at, taken_by}
use Rattle.world_model.specs.World.{taken_said, took, with_taken}
use Rattle.world_model.specs.declared.moment.Moment.TheVariants as moment
use Rattle.world_model.specs.SafeStory.{IsSameButHostile, IsSameRun}
use Rattle.world_model.specs.Story.{Chosen, Epoch, Story, as_of, earlier, epoch_of, follow, goes_on, is_session}
use Rattle.world_model.specs.Story.{left_by, passed, session_at, session_of_call}
use Rattle.world_stories.proofs.Going.{forge_is, stale_is}

-- ---- what is delivered to the container
heard_stays : (w : World) (p : ℕ) (m : Message) (v : World) → m.session ≢ w.rec.session
    → session_of_call w.rec.session m m.said ≡ w.rec.session
    → with_taken w (taken_at w.rec (Some p) (link_of m) m) (delivered w m) ≡ Ok v → IsSameRun w v
heard_stays w p m v apart is e = (let k = stale_is w (Some p) m m.said v (ne_eqb m.session w.rec.session apart) is e in
    subst (IsSameRun w) k.1
    (record { rec = refl; epoch = ap (λ ts. record (epoch_of w) { taken = ts }) (append-nil w.taken) }))

-- ---- what an earlier run does leaves the present one
left_stays : (s : Story) (e : Epoch) (r : Result World Stop) (next : Story) → left_by s e r ≡ Ok next
    → IsSameRun s.now next.now
left_stays s e (Err stop) next is = cc
left_stays s e (Ok v) next is =
    (let same : record s {
      now = record s.now { stock = v.stock; sent = v.sent; answers = v.answers };
      past = put (is_session e.session) (record (epoch_of v) { session = e.session }) s.past;
    } ≡ next = cc in
    subst (λ (x : Story). IsSameRun s.now x.now) same (record { rec = refl; epoch = refl }))

earlier_leaves : (s : Story) (x : _) (e : Option Epoch) (next : Story) → earlier s x e ≡ Ok next
    → IsSameRun s.now next.now
earlier_leaves s x None next is = cc
earlier_leaves s x (Some e) next is = left_stays s e (goes_on (as_of s.now e) x) next is

follow_now : (s : Story) (p : ℕ) (r : Result World Stop) (next : Story) → follow s (event.Deliver p) r ≡ Ok next
    → r ≡ Ok next.now
follow_now s p (Err stop) next e = cc
follow_now s p (Ok v) next e = (let same : record s { now = v } ≡ next = cc in ap Ok (ap (λ (x : Story). x.now) same))

-- the message at a place
sent_at : (xs : List Sent) (p : ℕ) (m : Message) → nth (messages xs) p ≡ Some m → (x : Sent) × (nth xs p ≡ Some x)
    × (x.message ≡ m)
sent_at xs zero m e = cc
sent_at xs (suc i) m e = at xs i e
  where
    at : (ys : List Sent) (i : ℕ) → slice_get (messages ys) i ≡ Some m → (x : Sent) × (slice_get ys i ≡ Some x)
        × (x.message ≡ m)
    at [] i f = cc
    at (y ∷ ys) zero f = (y, refl, (let q : y.message ≡ m = cc in q))
    at (y ∷ ys) (suc i) f = at ys i f

delivered_stays : (s : Story) (choice : Chosen) (p : ℕ) (x : Sent) (next : Story) → nth s.now.sent p ≡ Some x
    → x.message.session ≢ s.now.rec.session → passed s choice (moment.Event (event.Deliver p)) ≡ Ok next
    → IsSameRun s.now next.now
delivered_stays s choice p x next at apart e =
    let w = s.now in
    let here = session_at w.rec.session (Some x) in
    let told : (if here == w.rec.session then follow s (event.Deliver p) (deliver w p (Some x))
    else earlier s (event.Deliver p) (find (is_session here) s.past)) ≡ Ok next
    = subst (λ y. (if session_at w.rec.session y == w.rec.session then follow s (event.Deliver p) (deliver w p y)
    else earlier s (event.Deliver p) (find (is_session (session_at w.rec.session y)) s.past)) ≡ Ok next) at e in
    elim (eqb_tells here w.rec.session) [
      | inl t ↦ (let now = follow_now s p (deliver w p (Some x)) next
          (subst (λ b. (if b then follow s (event.Deliver p) (deliver w p (Some x))
          else earlier s (event.Deliver p) (find (is_session here) s.past)) ≡ Ok next) t.0 told) in
          heard_stays w p x.message next.now apart t.1 now)
      | inr t ↦ earlier_leaves s (event.Deliver p) (find (is_session here) s.past) next
          (subst (λ b. (if b then follow s (event.Deliver p) (deliver w p (Some x))
          else earlier s (event.Deliver p) (find (is_session here) s.past)) ≡ Ok next) t.0 told)
    ]

pub earlier_stays : (s : Story) (p : ℕ) (m : Message) (choice : Chosen) (next : Story)
    → nth (messages s.now.sent) p ≡ Some m → m.session ≢ s.now.rec.session
    → passed s choice (moment.Event (event.Deliver p)) ≡ Ok next → IsSameRun s.now next.now
earlier_stays s p m choice next at apart e =
    (let x = sent_at s.now.sent p m at in delivered_stays s choice p x.0 next x.1
    (λ q. apart (ap (λ (y : Message). y.session) (sym x.2) ∙ q)) e)

-- ---- a forged message
-- one of another session than the link's is refused
refused_off : (r : Record) (link : ServerLink) (m : Message) → m.session ≢ link.session
    → on_message r link m ≡ Err WrongLink
refused_off r link m apart =
    ap (λ b. unless (not (b && is_said_by link.inc m.said)) WrongLink
    (unless (not (link.session == r.session)) Stale (said_to r m.said)))
    (ne_eqb m.session link.session apart)

-- and brings nothing, whatever it says
none_said : (r : Record) (p : Option ℕ) (link : ServerLink) (m : Message) (x : Said) (fault : ContainerFault)
    → on_message r link m ≡ Err fault
    → taken_said r p link m x ≡ []
none_said r p link m (Call inc act n op) fault e = refl
none_said r p link m (Reply inc act n answer) fault e = ap (taken_by r p inc act) e
none_said r p link m (Write inc act g n content) fault e = ap (taken_by r p inc act) e
none_said r p link m (Ask inc act g) fault e = ap (taken_by r p inc act) e

forged_world : (w : World) (inc : ℕ) (m : Message) → m.session ≢ w.rec.session
    → IsSameButHostile w inc (forged_on w inc m)
forged_world w inc m apart =
    let e = refused_off w.rec (link_to w inc) m apart in
    let none : taken_at w.rec None (link_to w inc) m ≡ [] = none_said w.rec None (link_to w inc) m m.said WrongLink e in
    let hostile = w.hostile ++ inc ∷ [] in
    subst (λ told. IsSameButHostile w inc
    (record (took w told) { taken = w.taken ++ taken_at w.rec None (link_to w inc) m; hostile = hostile }))
    (sym e)
    (record {
      rec = refl;
      epoch = ap (λ ts. record (epoch_of w) { taken = ts; hostile = hostile })
          (ap (λ ts. w.taken ++ ts) none ∙ append-nil w.taken);
    })

forged_now : (s : Story) (inc : ℕ) (m : Message) (r : Result World Stop) (next : Story)
    → follow s (event.Forge inc m) r ≡ Ok next → r ≡ Ok next.now
forged_now s inc m (Err stop) next e = cc
forged_now s inc m (Ok v) next e = (let same : record s { now = v } ≡ next = cc in
    ap Ok (ap (λ (x : Story). x.now) same))

no_earlier : (s : Story) (inc : ℕ) (m : Message) (e : Option Epoch) (next : Story)
    → earlier s (event.Forge inc m) e ≡ Ok next
    → IsSameButHostile s.now inc next.now
no_earlier s inc m None next is = cc
no_earlier s inc m (Some e) next is = cc

pub forged_stays : (s : Story) (inc : ℕ) (m : Message) (choice : Chosen) (next : Story) → m.session ≢ s.now.rec.session
    → passed s choice (moment.Event (event.Forge inc m)) ≡ Ok next → IsSameButHostile s.now inc next.now
forged_stays s inc m choice next apart e =
    let w = s.now in
    let i = nth w.instances inc in
    let n = w.rec.session in
    elim (n == n) as (λ b. (if b then follow s (event.Forge inc m) (forge w inc m i)
    else earlier s (event.Forge inc m) (find (is_session n) s.past)) ≡ Ok next
    → IsSameButHostile w inc next.now) [
      | true ↦
          (λ g. subst (IsSameButHostile w inc)
          (sym (forge_is w inc m i next.now (forged_now s inc m (forge w inc m i) next g)))
          (forged_world w inc m apart))
      | false ↦ (λ g. no_earlier s inc m (find (is_session n) s.past) next g)
    ] e
