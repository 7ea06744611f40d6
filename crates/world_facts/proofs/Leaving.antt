-- What a change of links or of activations leaves of answered closes; and what senders saw stays.
use Rattle.std.proofs.Common.{◌≡◌, ℕ, ◌+◌, ◌≤◌, List, [], ◌∷◌, ◌++◌, map, Option, Some, None, refl, sym, ap, ◌∙◌, inl}
use Rattle.std.proofs.Common.{inr, arith, subst}
use Rattle.message_values.specs.declared.message.Said.{Said}
use Rattle.message_values.specs.declared.message.Said.TheVariants.{Call, Reply}
use Rattle.message_values.specs.declared.operation.Operation.{Operation}
use Rattle.message_values.specs.declared.operation.Operation.TheVariants.{Close}
use Rattle.server_model.specs.Server.{Activation}
use Rattle.container_model.specs.declared.record.Link.{Link}
use Rattle.world_model.specs.declared.logs.Sent.{Sent}
use Rattle.world_model.specs.World.{of_container, in_session}
use Rattle.world_model.specs.Safe.{Among}
use Rattle.world_facts.specs.Words.{Links, Acts, Lives, IsHonest, all_said}
use Rattle.world_facts.specs.Facts.{InStep, not_begun, level, behind, ahead, InSteps}
use Rattle.world_facts.specs.Shapes.{IsSame, IsCalled, AskedAt, none, stays, queues, sends, AsksAll, Settles, SendsNext}
use Rattle.world_facts.specs.Shapes.{Begins, EndsSome, StartsOrEnds, Alike, Tells}
use Rattle.world_facts.specs.Views.{IsSentOpen, IsSeen, Views, Grows, WasAnswered, LeavesCloses}
use Rattle.world_facts.proofs.Lookups.{among_join, among_old, among_mapped}
use Rattle.world_facts.proofs.Issuing.{which}
use Rattle.world_facts.proofs.Alike.{before_of}
use Rattle.message_values.specs.declared.message.Message.{Message}

-- what senders saw stays where no other close is answered
seen_as : (before after : List Sent) (l m : Link) (a b : Activation) → Grows before after → IsSame l m
    → b.last ≡ a.last → b.reply ≡ a.reply → IsSeen before l.inc l.act a.last a.reply l.states l.s
    → IsSeen after m.inc m.act b.last b.reply m.states m.s
seen_as before after l m a b g e el er h = record {
  session = h.session;
  view = h.view;
  among =
      subst
      (λ x. Among after (record {
        message = in_session h.session (Reply x m.act b.last b.reply);
        view = Some h.view;
      })) (sym e.inc)
      (subst
      (λ x. Among after (record {
        message = in_session h.session (Reply l.inc x b.last b.reply);
        view = Some h.view;
      })) (sym e.act)
      (subst
      (λ x. Among after (record {
        message = in_session h.session (Reply l.inc l.act x b.reply);
        view = Some h.view;
      })) (sym el)
      (subst
      (λ x. Among after (record {
        message = in_session h.session (Reply l.inc l.act a.last x);
        view = Some h.view;
      })) (sym er) (g.kept _ h.among))));
  opened = h.opened;
  states = h.states ∙ sym e.states;
  grant = h.grant ∙ sym e.s;
}

pub views_kept : {hostile : List ℕ} (links now : Links) (acts after : Acts) (log longer : List Sent)
    → LeavesCloses hostile links now acts after → Grows log longer → Views hostile links acts log
    → Views hostile now after longer
views_kept {hostile = hostile} links now acts after log longer leaves grows v = record {
  writes_sent = λ x h. elim (grows.new x h) [ inl old ↦ v.writes_sent x old | inr new ↦ new ];
  closes_sent = λ o l a option e honest k p el. (let b = leaves o l a option e honest k p el in
      let n : b.activation.last ≡ b.link.last = sym b.last ∙ (el ∙ b.same.last) in
      seen_as log longer b.link l b.activation a grows b.same b.last b.reply
      (v.closes_sent o b.link b.activation option b.linked (subst (IsHonest hostile) b.same.inc honest) b.known
      (sym b.same.pending ∙ p) n));
}

-- logs
pub grows_none : (log : List Sent) → Grows log log
grows_none log = record { kept = λ x h. h; new = λ x h. inl h }

pub grows_one : (log : List Sent) (y : Sent) → IsSentOpen y.message.said y.view → Grows log (log ++ y ∷ [])
grows_one log y h = record {
  kept = λ x g. among_old log (y ∷ []) x g;
  new = λ x g. elim (among_join log (y ∷ []) x g) [
    | inl old ↦ inl old
    | inr here ↦ elim here [
      | inl e ↦ inr (subst (λ (z : Sent). IsSentOpen z.message.said z.view) (sym e) h)
      | inr
          z ↦ absurd z
    ]
  ];
}

-- the container sends calls alone
abbrev pub AreCalls : List Said → Type 0
AreCalls more = (m : Said) → Among more m → (inc act n : ℕ) × (op : Operation) × (m ≡ Call inc act n op)

among_said : (ms : List Message) (m : Message) → Among ms m → Among (all_said ms) m.said
among_said [] m h = absurd h
among_said (x ∷ xs) m (inl e) = inl (ap (λ (y : Message). y.said) e)
among_said (x ∷ xs) m (inr h) = inr (among_said xs m h)

pub grows_calls : (log : List Sent) (more : List Message) → AreCalls (all_said more)
    → Grows log (log ++ map of_container more)
grows_calls log more calls = record {
  kept = λ x g. among_old log (map of_container more) x g;
  new = λ x g. elim (among_join log (map of_container more) x g) [
    | inl old ↦ inl old
    | inr new ↦ (let p = among_mapped of_container more x new in
        let c = calls p.0.said (among_said more p.0 p.1) in
        inr (subst (λ (z : Sent). IsSentOpen z.message.said z.view) (sym p.2)
        (subst (λ m. IsSentOpen m None) (sym c.4) tt)))
  ];
}

one_call : (inc act n : ℕ) (op : Operation) (more : List Said) → more ≡ Call inc act n op ∷ [] → AreCalls more
one_call inc act n op more e m h = at (subst (λ ms. Among ms m) e h)
  where
    at : Among (Call inc act n op ∷ []) m → (i x k : ℕ) × (p : Operation) × (m ≡ Call i x k p)
    at (inl q) = (inc, act, n, op, q)
    at (inr z) = absurd z

pub asks_calls : (Asks : ℕ → Operation → Type 0) (links after : Links) (more : List Said)
    → AsksAll Asks links after more → AreCalls more
asks_calls Asks links after more h m g = (let p = h.from m g in at p.0 (h.each p.0) p.1)
  where
    at : (k : ℕ) → AskedAt (Asks k) (links k) (after k) (h.news k) → Among (h.news k) m → (i x j : ℕ)
        × (p : Operation) × (m ≡ Call i x j p)
    at k (none w i n) a = absurd (subst (λ xs. Among xs m) n a)
    at k (stays b l w i s wt n) a = absurd (subst (λ xs. Among xs m) n a)
    at k (queues b l op p w i s pe wt ak n) a = absurd (subst (λ xs. Among xs m) n a)
    at k (sends b l op w i c wb wm ak n) a = one_call l.inc l.act l.last op (h.news k) n m a

pub next_calls : (links after : Links) (o : ℕ) (more : List Said) → SendsNext links after o more → AreCalls more
next_calls links after o more h = one_call h.link.inc h.link.act h.link.last h.op more h.sends

pub begins_calls : (links after : Links) (lives : Lives) (owners : List ℕ) (last o : ℕ) (more : List Said)
    → Begins links after lives owners last o more → AreCalls more
begins_calls links after lives owners last o more h = one_call h.inc (last + 1) 1 h.op more h.sends

-- a link that was so before
was_same : (links : Links) (acts : Acts) (o : ℕ) (b l : Link) (a : Activation) → links o ≡ Some b
    → acts l.inc l.act ≡ Some a → IsSame b l → WasAnswered links acts o l a
was_same links acts o b l a e k s = record {
  link = b;
  activation = a;
  linked = e;
  known = ap (λ x. acts x b.act) (sym s.inc) ∙ (ap (acts l.inc) (sym s.act) ∙ k);
  same = s;
  last = refl;
  reply = refl;
}

same_link : (l : Link) → IsSame l l
same_link l = record {
  session = refl;
  inc = refl;
  act = refl;
  last = refl;
  pending = refl;
  states = refl;
  s = refl;
  saved = inl refl;
}

-- what is called now isn't answered yet
not_answered : (b l : Link) (op : Operation) (a : Activation) → IsCalled b l op → (x : Option Activation)
    → x ≡ Some a → InStep b x → a.last ≡ l.last → ⊥
not_answered b l op a c _ e (not_begun p one v s g) el = (let z : None ≡ Some p = sym c.free ∙ g in cc)
not_answered b l op a c _ e (level y g n v) el = (let z : Some y ≡ Some a = e in let is : y ≡ a = cc in
    let ya : y.last ≡ a.last = ap (λ (w : Activation). w.last) is in
    let yb : y.last ≡ b.last = n in
    let cl : l.last ≡ b.last + 1 = c.last in
    absurd (omega arith))
not_answered b l op a c _ e (behind y p g n v) el = (let z : None ≡ Some p = sym c.free ∙ g in cc)
not_answered b l op a c _ e (ahead y p g n v) el = (let z : None ≡ Some p = sym c.free ∙ g in cc)

called_answered : (hostile : List ℕ) (links : Links) (acts : Acts) (o : ℕ) (b l : Link) (op : Operation)
    (a : Activation) → InSteps hostile links acts → links o ≡ Some b → IsCalled b l op → IsHonest hostile l.inc
    → acts l.inc l.act ≡ Some a → a.last ≡ l.last → ⊥
called_answered hostile links acts o b l op a steps e c honest k el =
    not_answered b l op a c (acts b.inc b.act) (ap (λ x. acts x b.act) (sym c.inc)
    ∙ (ap (acts l.inc) (sym c.act) ∙ k)) (steps o b e (subst (IsHonest hostile) c.inc honest)) el

-- each shape
pub asks_leave : (hostile : List ℕ) (Asks : ℕ → Operation → Type 0) (links after : Links) (acts : Acts)
    (more : List Said) → AsksAll Asks links after more → InSteps hostile links acts
    → LeavesCloses hostile links after acts acts
asks_leave hostile Asks links after acts more h steps o l a option e honest k p el = at (h.each o)
  where
    at : AskedAt (Asks o) (links o) (after o) (h.news o) → WasAnswered links acts o l a
    at (none w i n) = absurd (let z : None ≡ Some l = sym i ∙ e in cc)
    at (stays b m w i s wt n) = (let z : Some m ≡ Some l = sym i ∙ e in let q : m ≡ l = cc in
        was_same links acts o b l a w k (subst (IsSame b) q s))
    at (queues b m op x w i s pe wt ak n) = (let z : Some m ≡ Some l = sym i ∙ e in let q : m ≡ l = cc in
        was_same links acts o b l a w k (subst (IsSame b) q s))
    at (sends b m op w i c wb wm ak n) = (let z : Some m ≡ Some l = sym i ∙ e in let q : m ≡ l = cc in
        absurd (called_answered hostile links acts o b l op a steps w (subst (λ x. IsCalled b x op) q c) honest k el))

pub settles_leave : (hostile : List ℕ) (links after : Links) (acts : Acts) (o : ℕ)
    → Settles hostile links after acts o → LeavesCloses hostile links after acts acts
settles_leave hostile links after acts o h n l a option e honest k p el =
    elim (which links after o n h.link l h.is h.others e) [
      | inl s ↦ absurd (let z : None ≡ Some (Close option) = sym h.pending
          ∙ (ap (λ (x : Link). x.pending) (sym s.1) ∙ p) in cc)
      | inr s ↦ was_same links acts n l l a s.1 k (same_link l)
    ]

pub next_leaves : (hostile : List ℕ) (links after : Links) (acts : Acts) (o : ℕ) (more : List Said)
    → SendsNext links after o more → InSteps hostile links acts → LeavesCloses hostile links after acts acts
next_leaves hostile links after acts o more h steps n l a option e honest k p el =
    elim (which links after o n h.link l h.is h.others e) [
      | inl s ↦ absurd (called_answered hostile links acts o h.before l h.op a steps h.was
          (subst (λ x. IsCalled h.before x h.op) (sym s.1) h.called) honest k el)
      | inr s ↦ was_same links acts n l l a s.1 k (same_link l)
    ]

pub begins_leave : (hostile : List ℕ) (links after : Links) (acts : Acts) (lives : Lives) (owners : List ℕ)
    (last o : ℕ) (more : List Said) → Begins links after lives owners last o more
    → ((inc act : ℕ) (a : Activation) → acts inc act ≡ Some a → act ≤ last) → LeavesCloses hostile links after acts acts
begins_leave hostile links after acts lives owners last o more h drawn n l a option e honest k p el =
    elim (which links after o n _ l h.is h.others e) [
      | inl s ↦ (let ea : l.act ≡ last + 1 = ap (λ (x : Link). x.act) s.1 in let le : l.act ≤ last =
          drawn l.inc l.act a k in absurd (omega arith))
      | inr s ↦ was_same links acts n l l a s.1 k (same_link l)
    ]

pub ends_leave : (hostile : List ℕ) (links after : Links) (acts : Acts) (lives : Lives)
    → EndsSome hostile links after acts lives → LeavesCloses hostile links after acts acts
ends_leave hostile links after acts lives h o l a option e honest k p el = elim (h.each o) [
  | inl s ↦ was_same links acts o l l a (sym s ∙ e) k (same_link l)
  | inr g ↦ absurd (let z : None ≡ Some l = sym g.0 ∙ e in cc)
]

pub starts_leave : (hostile : List ℕ) (links : Links) (acts after : Acts) (lives now : Lives)
    → StartsOrEnds acts after lives now → LeavesCloses hostile links links acts after
starts_leave hostile links acts after lives now h o l a option e honest k p el =
    record {
      link = l;
      activation = a;
      linked = e;
      known = sym (h.same l.inc l.act) ∙ k;
      same = same_link l;
      last = refl;
      reply = refl;
    }

pub tells_leave : (hostile : List ℕ) (links : Links) (acts after : Acts) → Tells acts after
    → LeavesCloses hostile links links acts after
tells_leave hostile links acts after h o l a option e honest k p el =
    (let b = before_of (acts l.inc l.act) a (subst (Alike (acts l.inc l.act)) k (h l.inc l.act)) in
    let same = b.2 in
    record {
      link = l;
      activation = b.0;
      linked = e;
      known = b.1;
      same = same_link l;
      last = same.last;
      reply = same.reply;
    })
