-- Of each object an operation is asked or none: what stays, and what is issued then.
use Rattle.std.proofs.Common.{◌≡◌, ◌⊎◌, ℕ, ◌+◌, ◌≤◌, List, [], ◌∷◌, ◌++◌, length, Option, Some, None, refl, sym, ap}
use Rattle.std.proofs.Common.{◌∙◌, inl, inr, arith, subst, slice_get}
use Rattle.message_values.specs.Found.{nth}
use Rattle.message_values.specs.declared.message.Said.{Said}
use Rattle.message_values.specs.declared.message.Said.TheVariants.{Call, Reply}
use Rattle.message_values.specs.declared.operation.Operation.{Operation}
use Rattle.message_values.specs.declared.operation.Operation.TheVariants.{SaveCompleted}
use Rattle.message_values.specs.declared.answer.Answer.{Answer}
use Rattle.tree_streams.specs.declared.stored.Stored.{Stored}
use Rattle.server_model.specs.Server.{Activation}
use Rattle.container_model.specs.declared.record.Link.{Link}
use Rattle.world_model.specs.declared.life.Life.{Life}
use Rattle.container_model.specs.declared.answer.Done.{Done}
use Rattle.world_model.specs.declared.logs.ServerDone.{ServerDone}
use Rattle.world_model.specs.Safe.{Among}
use Rattle.world_facts.specs.Words.{Links, Acts, Lives, IsHonest, IsLinked, Issued, called, waits}
use Rattle.world_facts.specs.Facts.{InStep, HasSaved, Counts, Facts}
use Rattle.world_facts.specs.Shapes.{IsSame, IsCalled, AskedAt, none, stays, queues, sends, AsksAll, IsQuiet}
use Rattle.world_facts.proofs.Lookups.{among_join, among_old, nth_bound, slice_get_one}
use Rattle.world_facts.proofs.Issuing.{NoMoreEnds, counts_kept}
use Rattle.world_facts.proofs.Sending.{is_behind, ahead_sent, saved_kept, only_calls}
use Rattle.world_facts.proofs.SameLinks.{is_same_step}

-- how the link of an object came to be
pub data Came (b l : Link) : Type 0 where
  kept : IsSame b l → Came b l
  sent : (op : Operation) → IsCalled b l op → Came b l

-- an operation that is asked now of the link of an object
pub record IsAsked (Asks : ℕ → Operation → Type 0) (links : Links) (inc act n : ℕ) (op : Operation) : Type 0 where
  pub o : ℕ
  pub link : Link
  pub was : links o ≡ Some link
  pub asks : Asks o op
  pub inc_is : link.inc ≡ inc
  pub act_is : link.act ≡ act
  pub number : n ≡ link.last + 1 + length link.waiting

-- a message is the pending call of a link, which had nothing pending and nothing waiting
pub record IsNewCall (Asks : ℕ → Operation → Type 0) (links after : Links) (m : Said) : Type 0 where
  pub o : ℕ
  pub before : Link
  pub link : Link
  pub op : Operation
  pub was : links o ≡ Some before
  pub is : after o ≡ Some link
  pub asked : IsCalled before link op
  pub alone : before.waiting ≡ []
  pub asks : Asks o op
  pub call : m ≡ Call link.inc link.act link.last op

module _ {hostile : List ℕ} (Asks : ℕ → Operation → Type 0) (links after : Links) (acts : Acts) (lives : Lives)
    (log more : List Said) (owners : List ℕ) (last : ℕ) (counted : List Done) (served : List ServerDone)
    (h : AsksAll Asks links after more) (f : Facts hostile links acts lives log owners last counted served) where
  came : (k : ℕ) (l : Link) → after k ≡ Some l → (b : Link) × (links k ≡ Some b) × Came b l
  came k l e = at (h.each k)
    where
      at : AskedAt (Asks k) (links k) (after k) (h.news k) → (b : Link) × (links k ≡ Some b) × Came b l
      at (none w i n) = absurd (let z : None ≡ Some l = sym i ∙ e in cc)
      at (stays b m w i s wt n) = (let z : Some m ≡ Some l = sym i ∙ e in let q : m ≡ l = cc in
          (b, w, subst (Came b) q (kept s)))
      at (queues b m op p w i s pe wt a n) = (let z : Some m ≡ Some l = sym i ∙ e in let q : m ≡ l = cc in
          (b, w, subst (Came b) q (kept s)))
      at (sends b m op w i c wb wm a n) = (let z : Some m ≡ Some l = sym i ∙ e in let q : m ≡ l = cc in
          (b, w, subst (Came b) q (sent op c)))

  same_activation : (b l : Link) → Came b l → (l.inc ≡ b.inc) × (l.act ≡ b.act)
  same_activation b l (kept s) = (s.inc, s.act)
  same_activation b l (sent op c) = (c.inc, c.act)

  -- a message that is sent is a new call
  new_call : (m : Said) → Among more m → IsNewCall Asks links after m
  new_call m g = (let p = h.from m g in at p.0 (h.each p.0) p.1)
    where
      one : (x : Said) → Among (x ∷ []) m → m ≡ x
      one x (inl e) = e
      one x (inr z) = absurd z

      at : (k : ℕ) → AskedAt (Asks k) (links k) (after k) (h.news k) → Among (h.news k) m → IsNewCall Asks links after m
      at k (none w i n) a = absurd (subst (λ xs. Among xs m) n a)
      at k (stays b l w i s wt n) a = absurd (subst (λ xs. Among xs m) n a)
      at k (queues b l op p w i s pe wt ak n) a = absurd (subst (λ xs. Among xs m) n a)
      at k (sends b l op w i c wb wm ak n) a = record {
        o = k;
        before = b;
        link = l;
        op = op;
        was = w;
        is = i;
        asked = c;
        alone = wb;
        asks = ak;
        call = one _ (subst (λ xs. Among xs m) n a);
      }

  -- a link that was there is there, with its activation
  still : (k : ℕ) (b : Link) → links k ≡ Some b → (l : Link) × (after k ≡ Some l) × (l.inc ≡ b.inc) × (l.act ≡ b.act)
  still k b e = at (h.each k)
    where
      at : AskedAt (Asks k) (links k) (after k) (h.news k) → (l : Link) × (after k ≡ Some l) × (l.inc ≡ b.inc)
          × (l.act ≡ b.act)
      at (none w i n) = absurd (let z : None ≡ Some b = sym w ∙ e in cc)
      at (stays x m w i s wt n) = (let z : Some x ≡ Some b = sym w ∙ e in let q : x ≡ b = cc in
          (m, i, s.inc ∙ ap (λ (y : Link). y.inc) q, s.act ∙ ap (λ (y : Link). y.act) q))
      at (queues x m op p w i s pe wt a n) = (let z : Some x ≡ Some b = sym w ∙ e in let q : x ≡ b = cc in
          (m, i, s.inc ∙ ap (λ (y : Link). y.inc) q, s.act ∙ ap (λ (y : Link). y.act) q))
      at (sends x m op w i c wb wm a n) = (let z : Some x ≡ Some b = sym w ∙ e in let q : x ≡ b = cc in
          (m, i, c.inc ∙ ap (λ (y : Link). y.inc) q, c.act ∙ ap (λ (y : Link). y.act) q))

  named : (k : ℕ) (l : Link) → after k ≡ Some l → nth owners l.act ≡ Some k
  named k l e = (let c = came k l e in ap (nth owners) (same_activation c.0 l c.2).1 ∙ f.drawn.calls_named k c.0 c.1)

  told : (k : ℕ) (l : Link) → after k ≡ Some l → (life : Life) × (lives l.inc ≡ Some life)
  told k l e = (let c = came k l e in let t = f.drawn.servers_told k c.0 c.1 in
      (t.0, ap lives (same_activation c.0 l c.2).0 ∙ t.1))

  within : (k : ℕ) (l : Link) → after k ≡ Some l → l.act ≤ last
  within k l e = (let b = nth_bound owners l.act k (named k l e) in let q = f.drawn.many in omega arith)

  -- two links of one activation are one
  apart : (k k' : ℕ) (l l' : Link) → after k ≡ Some l → after k' ≡ Some l' → l.act ≡ l'.act → l ≡ l'
  apart k k' l l' e e' ea = (let z : Some k ≡ Some k' = sym (named k l e) ∙ (ap (nth owners) ea ∙ named k' l' e') in
      let kk : k ≡ k' = cc in
      let q : Some l ≡ Some l' = sym e ∙ (ap after kk ∙ e') in cc)

  called_now : (inc n : ℕ) (op : Operation) (k : ℕ) (l : Link) → after k ≡ Some l → Among more (Call inc l.act n op)
      → (inc ≡ l.inc) × (n ≡ l.last) × (l.pending ≡ Some op)
  called_now inc n op k l e g = (let c = new_call (Call inc l.act n op) g in
      let q = c.call in
      let ea : l.act ≡ c.link.act = cc in
      let is : c.link ≡ l = apart c.o k c.link l c.is e (sym ea) in
      let qi : inc ≡ c.link.inc = cc in
      let qn : n ≡ c.link.last = cc in
      let qo : op ≡ c.op = cc in (
        qi ∙ ap (λ (x : Link). x.inc) is,
        qn ∙ ap (λ (x : Link). x.last) is,
        ap (λ (x : Link). x.pending) (sym is)
            ∙ (c.asked.pending ∙ ap Some (sym qo)),
      ))

  bounded_old : (inc n : ℕ) (op : Operation) (k : ℕ) (b l : Link) → links k ≡ Some b → Came b l
      → Among log (Call inc l.act n op) → (inc ≡ l.inc) × (n ≤ l.last)
  bounded_old inc n op k b l w (kept s) g =
      (let q = f.calls.bounded k inc n op b w (subst (λ x. Among log (Call inc x n op)) s.act g) in
      let le : n ≤ b.last = q.1 in let el = s.last in (q.0 ∙ sym s.inc, omega arith))
  bounded_old inc n op k b l w (sent p c) g =
      (let q = f.calls.bounded k inc n op b w (subst (λ x. Among log (Call inc x n op)) c.act g) in
      let le : n ≤ b.last = q.1 in let el = c.last in (q.0 ∙ sym c.inc, omega arith))

  pending_old : (inc : ℕ) (op asked : Operation) (k : ℕ) (b l : Link) → links k ≡ Some b → Came b l
      → l.pending ≡ Some asked → Among log (Call inc l.act l.last op) → op ≡ asked
  pending_old inc op asked k b l w (kept s) p g = f.calls.pending k inc op asked b w (sym s.pending ∙ p)
      (subst (λ x. Among log (Call inc b.act x op)) s.last (subst (λ x. Among log (Call inc x l.last op)) s.act g))
  pending_old inc op asked k b l w (sent x c) p g =
      (let q = f.calls.bounded k inc l.last op b w (subst (λ x. Among log (Call inc x l.last op)) c.act g) in
      let le : l.last ≤ b.last = q.1 in let el = c.last in absurd (omega arith))

  step_at : (b l : Link) → Came b l → (x : Option Activation) → InStep b x → InStep l x
  step_at b l (kept s) x g = is_same_step b l s x g
  step_at b l (sent op c) x g = is_behind b l op c x g

  in_step : (k : ℕ) (l : Link) → after k ≡ Some l → IsHonest hostile l.inc → InStep l (acts l.inc l.act)
  in_step k l e honest = (let c = came k l e in
      let a = same_activation c.0 l c.2 in
      subst (λ x. InStep l (acts x l.act)) (sym a.0)
      (subst (λ x. InStep l (acts c.0.inc x)) (sym a.1)
      (step_at c.0 l c.2 _ (f.in_step k c.0 c.1 (subst (IsHonest hostile) a.0 honest)))))

  saves : (b l : Link) → Came b l → (l.saved ≡ b.saved) ⊎ (l.saved ≡ None)
  saves b l (kept s) = s.saved
  saves b l (sent op c) = c.saved

  saved_same : (k : ℕ) (l : Link) (c : Stored) → after k ≡ Some l → IsHonest hostile l.inc → l.saved ≡ Some c
      → HasSaved c (acts l.inc l.act)
  saved_same k l c e honest g = (let m = came k l e in let a = same_activation m.0 l m.2 in
      saved_kept acts m.0 l c a.0 a.1 (saves m.0 l m.2)
      (f.saved_same k m.0 c m.1 (subst (IsHonest hostile) a.0 honest)) g)

  linked : (inc act : ℕ) → IsLinked links inc act → IsLinked after inc act
  linked inc act g = (let s = still g.0 g.1 g.2 in (g.0, s.0, s.1, s.2 ∙ g.3, s.3 ∙ g.4))

  no_reply : (inc act n : ℕ) (r : Answer) → Among more (Reply inc act n r) → ⊥
  no_reply inc act n r g = (let c = new_call (Reply inc act n r) g in let q = c.call in cc)

  -- what is issued after it was issued before, or is asked now
  pub issued_now : (inc act n : ℕ) (op : Operation) → Issued after (log ++ more) inc act n op
      → Issued links log inc act n op ⊎ IsAsked Asks links inc act n op
  issued_now inc act n op (called g) = elim (among_join log more (Call inc act n op) g) [
    | inl old ↦ inl (called old)
    | inr new ↦ (let c = new_call (Call inc act n op) new in
        let q = c.call in
        let ei : inc ≡ c.link.inc = cc in
        let ea : act ≡ c.link.act = cc in
        let en : n ≡ c.link.last = cc in
        let eo : op ≡ c.op = cc in
        let el : c.link.last ≡ c.before.last + 1 = c.asked.last in
        let none_waits : length c.before.waiting ≡ 0 = ap length c.alone in
        inr (record {
          o = c.o;
          link = c.before;
          was = c.was;
          asks = subst (Asks c.o) (sym eo) c.asks;
          inc_is = sym c.asked.inc ∙ sym ei;
          act_is = sym c.asked.act ∙ sym ea;
          number = omega arith;
        }))
  ]
  issued_now inc act n op (waits x l i e ei ea at en) = by (h.each x)
    where
      by : AskedAt (Asks x) (links x) (after x) (h.news x) → Issued links log inc act n op
          ⊎ IsAsked Asks links inc act n op
      by (none w is nn) = absurd (let z : None ≡ Some l = sym is ∙ e in cc)
      by (stays b m w is s wt nn) = (let z : Some m ≡ Some l = sym is ∙ e in let q : m ≡ l = cc in
          inl (waits x b i w (sym s.inc ∙ (ap (λ (y : Link). y.inc) q ∙ ei))
          (sym s.act ∙ (ap (λ (y : Link). y.act) q ∙ ea))
          (ap (λ ys. slice_get ys i) (sym wt ∙ ap (λ (y : Link). y.waiting) q) ∙ at)
          (en ∙ ap (λ y. y + 1 + i) (ap (λ (y : Link). y.last) (sym q) ∙ s.last))))
      by (queues b m p pe w is s bp wt ak nn) = (let z : Some m ≡ Some l = sym is ∙ e in let q : m ≡ l = cc in
          let there : slice_get (b.waiting ++ p ∷ []) i ≡ Some op =
          ap (λ ys. slice_get ys i) (sym wt ∙ ap (λ (y : Link). y.waiting) q) ∙ at in
          let number : n ≡ b.last + 1 + i = en ∙ ap (λ y. y + 1 + i) (ap (λ (y : Link). y.last) (sym q) ∙ s.last) in
          elim (slice_get_one b.waiting p i op there) [
            | inl old ↦ inl (waits x b i w (sym s.inc ∙ (ap (λ (y : Link). y.inc) q ∙ ei))
                (sym s.act ∙ (ap (λ (y : Link). y.act) q ∙ ea)) old number)
            | inr new ↦ inr (record {
              o = x;
              link = b;
              was = w;
              asks = subst (Asks x) (sym new.0) ak;
              inc_is = sym s.inc ∙ (ap (λ (y : Link). y.inc) q ∙ ei);
              act_is = sym s.act ∙ (ap (λ (y : Link). y.act) q ∙ ea);
              number = number ∙ ap (λ y. b.last + 1 + y) new.1;
            })
          ])
      by (sends b m p w is c wb wm ak nn) = absurd (let z : Some m ≡ Some l = sym is ∙ e in let q : m ≡ l = cc in
          let y : None ≡ Some op = ap (λ ys. slice_get ys i) (sym wm ∙ ap (λ (v : Link). v.waiting) q) ∙ at in cc)

  -- all but the counts, which come in two ways
  pub asked_with : (counted' : List Done) → Counts hostile after acts (log ++ more) owners counted' served
      → Facts hostile after acts lives (log ++ more) owners last counted' served
  asked_with counted' cs = record {
    drawn = record {
      many = f.drawn.many;
      acts_drawn = f.drawn.acts_drawn;
      acts_called = f.drawn.acts_called;
      calls_drawn = λ inc act n op g. elim (among_join log more (Call inc act n op) g) [
        | inl old ↦ f.drawn.calls_drawn inc act n op old
        | inr new ↦ (let c = new_call (Call inc act n op) new in let q = c.call in let ea : act ≡ c.link.act = cc in
            let w = within c.o c.link c.is in omega arith)
      ];
      calls_named = named;
      servers_told = told;
      calls_told = λ inc act n op g. elim (among_join log more (Call inc act n op) g) [
        | inl old ↦ f.drawn.calls_told inc act n op old
        | inr new ↦ (let c = new_call (Call inc act n op) new in let q = c.call in let ei : inc ≡ c.link.inc = cc in
            let t = told c.o c.link c.is in (t.0, ap lives ei ∙ t.1))
      ];
    };
    calls = record {
      bounded = λ k inc n op l e g. elim (among_join log more (Call inc l.act n op) g) [
        | inl old ↦ (let c = came k l e in bounded_old inc n op k c.0 l c.1 c.2 old)
        | inr new ↦ (let q = called_now inc n op k l e new in let ql : n ≡ l.last = q.1 in (q.0, omega arith))
      ];
      pending = λ k inc op asked l e p g. elim (among_join log more (Call inc l.act l.last op) g) [
        | inl old ↦ (let c = came k l e in pending_old inc op asked k c.0 l c.1 c.2 p old)
        | inr new ↦ (let q = called_now inc l.last op k l e new in let z : Some op ≡ Some asked = sym q.2 ∙ p in cc)
      ];
    };
    in_step = in_step;
    one_ahead = ahead_sent hostile after acts log more in_step
        (λ inc act n op g. (let c = new_call (Call inc act n op) g in let q = c.call in
        (c.o, c.link, c.is, (cc), (cc), (cc)))) f.one_ahead;
    unlinked = record {
      called = λ inc act n op honest lv g. elim (among_join log more (Call inc act n op) g) [
        | inl old ↦ elim (f.unlinked.called inc act n op honest lv old) [
          | inl x ↦ inl (linked inc act x)
          | inr x ↦
              inr x
        ]
        | inr new ↦ (let c = new_call (Call inc act n op) new in let q = c.call in let ei : inc ≡ c.link.inc = cc in
            let ea : act ≡ c.link.act = cc in inl (c.o, c.link, c.is, sym ei, sym ea))
      ];
      known = λ inc act a honest lv g. elim (f.unlinked.known inc act a honest lv g) [
        | inl x ↦
            inl (linked inc act x)
        | inr x ↦ inr x
      ];
    };
    replies = only_calls acts log more no_reply f.replies;
    saved_same = saved_same;
    counts = cs;
  }

  -- where no end of a save is asked
  quiet_back : ((o : ℕ) (op : Operation) → Asks o op → IsQuiet op) → NoMoreEnds links after log (log ++ more)
  quiet_back quiet inc act n k s i = elim (issued_now inc act n (SaveCompleted k s) i) [
    | inl old ↦ old
    | inr new ↦
        absurd (quiet new.o (SaveCompleted k s) new.asks k s refl)
  ]

  pub asked_quietly : ((o : ℕ) (op : Operation) → Asks o op → IsQuiet op)
      → Facts hostile after acts lives (log ++ more) owners last counted served
  asked_quietly quiet = asked_with counted (counts_kept links after acts log (log ++ more) owners counted served
      (quiet_back quiet) (λ m g. among_old log more m g) f.counts)
