-- The first operation that waits is sent: each fact stays.
use Rattle.std.proofs.Common.{◌≡◌, ◌≢◌, ◌⊎◌, ℕ, suc, ◌+◌, ◌≤◌, List, [], ◌∷◌, ◌++◌, Option, Some, None, sym, ap, ◌∙◌}
use Rattle.std.proofs.Common.{inl, inr, arith, subst, slice_get}
use Rattle.message_values.specs.Found.{nth}
use Rattle.message_values.specs.declared.message.Said.{Said}
use Rattle.message_values.specs.declared.message.Said.TheVariants.{Call, Reply}
use Rattle.message_values.specs.declared.operation.Operation.{Operation}
use Rattle.message_values.specs.declared.operation.Operation.TheVariants.{SaveCompleted}
use Rattle.message_values.specs.declared.answer.Answer.{Answer}
use Rattle.tree_streams.specs.declared.stored.Stored.{Stored}
use Rattle.server_model.specs.Server.{Activation}
use Rattle.container_model.specs.declared.record.Link.{Link}
use Rattle.world_model.specs.declared.life.Life.{Life}
use Rattle.container_model.specs.declared.answer.Done.{Done}
use Rattle.world_model.specs.declared.logs.ServerDone.{ServerDone}
use Rattle.world_model.specs.Safe.{Among}
use Rattle.world_facts.specs.Words.{Links, Acts, Lives, IsHonest, IsLinked, called, waits}
use Rattle.world_facts.specs.Facts.{InStep, not_begun, level, behind, ahead, InSteps, last_acted, OneAhead, HasSaved}
use Rattle.world_facts.specs.Facts.{Replies, Facts}
use Rattle.world_facts.specs.Shapes.{IsCalled, SendsNext}
use Rattle.world_facts.proofs.Lookups.{among_join, among_old, nth_bound}
use Rattle.world_facts.proofs.Issuing.{NoMoreEnds, counts_kept, which, linked_kept}

-- an activation that was level is behind once it is called
pub is_behind : (b m : Link) (op : Operation) → IsCalled b m op → (x : Option Activation) → InStep b x → InStep m x
is_behind b m op c _ (not_begun p e v s g) = absurd (let z : None ≡ Some p = sym c.free ∙ g in cc)
is_behind b m op c _ (level a g e v) = (let el : a.last ≡ b.last = e in let ml : m.last ≡ b.last + 1 = c.last in
    behind a op c.pending (omega arith)
    (record { opened = v.opened; states = v.states ∙ sym c.states; grant = v.grant ∙ sym c.s }))
is_behind b m op c _ (behind a p g e v) = absurd (let z : None ≡ Some p = sym c.free ∙ g in cc)
is_behind b m op c _ (ahead a p g e v) = absurd (let z : None ≡ Some p = sym c.free ∙ g in cc)

-- the last call of a link in step is at most one ahead of its activation
pub last_ahead : (l : Link) (x : Option Activation) → InStep l x → l.last ≤ last_acted x + 1
last_ahead l _ (not_begun op e v s g) = (let one : l.last ≡ 1 = e in omega arith)
last_ahead l _ (level a g e v) = (let el : a.last ≡ l.last = e in omega arith)
last_ahead l _ (behind a op g e v) = (let el : a.last + 1 ≡ l.last = e in omega arith)
last_ahead l _ (ahead a op g e d) = (let el : a.last ≡ l.last = e in omega arith)

-- so where each call that is sent is the last one of a link, none is more than one ahead
pub ahead_sent : (hostile : List ℕ) (links : Links) (acts : Acts) (sent more : List Said) → InSteps hostile links acts
    → ((inc act n : ℕ) (op : Operation) → Among more (Call inc act n op) → (o : ℕ) × (l : Link) × (links o ≡ Some l)
    × (inc ≡ l.inc) × (act ≡ l.act) × (n ≡ l.last))
    → OneAhead hostile acts sent → OneAhead hostile acts (sent ++ more)
ahead_sent hostile links acts sent more steps new h inc act n op honest g =
    elim (among_join sent more (Call inc act n op) g) [
      | inl old ↦ h inc act n op honest old
      | inr x ↦ (let c = new inc act n op x in
          let l : Link = c.1 in
          let k : InStep l (acts inc act) = subst (λ y. InStep l (acts inc y)) (sym c.4)
          (subst (λ y. InStep l (acts y l.act)) (sym c.3)
          (steps c.0 l c.2 (subst (IsHonest hostile) c.3 honest))) in
          let le = last_ahead l (acts inc act) k in
          let en : n ≡ l.last = c.5 in
          omega arith)
    ]

-- the content of a save after a step that may end it
pub saved_kept : (acts : Acts) (b m : Link) (c : Stored) → m.inc ≡ b.inc → m.act ≡ b.act
    → ((m.saved ≡ b.saved) ⊎ (m.saved ≡ None)) → (b.saved ≡ Some c → HasSaved c (acts b.inc b.act))
    → m.saved ≡ Some c → HasSaved c (acts m.inc m.act)
saved_kept acts b m c ei ea k h g = elim k [
  | inl e ↦ subst (λ x. HasSaved c (acts x m.act)) (sym ei)
      (subst (λ x. HasSaved c (acts b.inc x)) (sym ea) (h (sym e ∙ g)))
  | inr e ↦ absurd (let z : None ≡ Some c = sym e ∙ g in cc)
]

-- replies stay where only calls are sent
pub only_calls : (acts : Acts) (sent more : List Said)
    → ((inc act n : ℕ) (r : Answer) → Among more (Reply inc act n r) → ⊥) → Replies acts sent
    → Replies acts (sent ++ more)
only_calls acts sent more no_reply h = record {
  reply_numbered = λ inc act a e. among_old sent more (Reply inc act a.last a.reply) (h.reply_numbered inc act a e);
  replies_kept = λ inc act n r g. h.replies_kept inc act n r (old inc act n r g);
  one_reply = λ inc act n r q g p. h.one_reply inc act n r q (old inc act n r g) (old inc act n q p);
}
  where
    old : (inc act n : ℕ) (r : Answer) → Among (sent ++ more) (Reply inc act n r) → Among sent (Reply inc act n r)
    old inc act n r g = elim (among_join sent more (Reply inc act n r) g) [
      | inl x ↦ x
      | inr x ↦
          absurd (no_reply inc act n r x)
    ]

module _ {hostile : List ℕ} (links after : Links) (acts : Acts) (lives : Lives) (sent more : List Said)
    (owners : List ℕ) (last : ℕ) (counted : List Done) (served : List ServerDone) (o : ℕ)
    (h : SendsNext links after o more) (f : Facts hostile links acts lives sent owners last counted served) where
  find_link : (k : ℕ) (l : Link) → after k ≡ Some l → ((k ≡ o) × (l ≡ h.link)) ⊎ ((k ≢ o) × (links k ≡ Some l))
  find_link k l e = which links after o k h.link l h.is h.others e

  -- the one message that is sent
  is_new : (m : Said) → Among more m → m ≡ Call h.link.inc h.link.act h.link.last h.op
  is_new m g = at (subst (λ xs. Among xs m) h.sends g)
    where
      at : Among (Call h.link.inc h.link.act h.link.last h.op ∷ []) m → m ≡ Call h.link.inc h.link.act h.link.last h.op
      at (inl e) = e
      at (inr z) = absurd z

  named : (k : ℕ) (l : Link) → after k ≡ Some l → nth owners l.act ≡ Some k
  named k l e = elim (find_link k l e) [
    | inl s ↦ ap (nth owners) (ap (λ (x : Link). x.act) s.1 ∙ h.called.act)
        ∙ (f.drawn.calls_named o h.before h.was ∙ ap Some (sym s.0))
    | inr s ↦ f.drawn.calls_named k l s.1
  ]

  told : (k : ℕ) (l : Link) → after k ≡ Some l → (life : Life) × (lives l.inc ≡ Some life)
  told k l e = elim (find_link k l e) [
    | inl s ↦ (let t = f.drawn.servers_told o h.before h.was in
        (t.0, ap lives (ap (λ (x : Link). x.inc) s.1 ∙ h.called.inc) ∙ t.1))
    | inr s ↦ f.drawn.servers_told k l s.1
  ]

  within : h.link.act ≤ last
  within = (let b = nth_bound owners h.link.act o (named o h.link h.is) in let q = f.drawn.many in omega arith)

  -- no other object has this activation
  alone : (k : ℕ) (l : Link) → k ≢ o → links k ≡ Some l → l.act ≡ h.link.act → ⊥
  alone k l ne e ea = (let z : Some k ≡ Some o = sym (f.drawn.calls_named k l e)
      ∙ (ap (nth owners) ea ∙ named o h.link h.is) in ne cc)

  bounded : (k inc n : ℕ) (op : Operation) (l : Link) → after k ≡ Some l
      → Among (sent ++ more) (Call inc l.act n op) → (inc ≡ l.inc) × (n ≤ l.last)
  bounded k inc n op l e g = elim (among_join sent more (Call inc l.act n op) g) [
    | inl old ↦ elim (find_link k l e) [
      | inl s ↦ (let q = f.calls.bounded o inc n op h.before h.was
          (subst (λ x. Among sent (Call inc x n op)) (ap (λ (x : Link). x.act) s.1 ∙ h.called.act) old) in
          let le : n ≤ h.before.last = q.1 in
          let el : l.last ≡ h.before.last + 1 = ap (λ (x : Link). x.last) s.1 ∙ h.called.last in
          (q.0 ∙ sym (ap (λ (x : Link). x.inc) s.1 ∙ h.called.inc), omega arith))
      | inr s ↦ f.calls.bounded k inc n op l s.1 old
    ]
    | inr new ↦ (let q = is_new (Call inc l.act n op) new in elim (find_link k l e) [
      | inl s ↦ (let en : n ≡ h.link.last = cc in let el : l.last ≡ h.link.last = ap (λ (x : Link). x.last) s.1 in
          let ei : inc ≡ h.link.inc = cc in (ei ∙ ap (λ (x : Link). x.inc) (sym s.1), omega arith))
      | inr s ↦ absurd (alone k l s.0 s.1 (cc))
    ])
  ]

  pending : (k inc : ℕ) (op asked : Operation) (l : Link) → after k ≡ Some l → l.pending ≡ Some asked
      → Among (sent ++ more) (Call inc l.act l.last op) → op ≡ asked
  pending k inc op asked l e p g = elim (among_join sent more (Call inc l.act l.last op) g) [
    | inl old ↦ elim (find_link k l e) [
      | inl s ↦ (let q = f.calls.bounded o inc l.last op h.before h.was
          (subst (λ x. Among sent (Call inc x l.last op)) (ap (λ (x : Link). x.act) s.1 ∙ h.called.act) old) in
          let le : l.last ≤ h.before.last = q.1 in
          let el : l.last ≡ h.before.last + 1 = ap (λ (x : Link). x.last) s.1 ∙ h.called.last in
          absurd (omega arith))
      | inr s ↦ f.calls.pending k inc op asked l s.1 p old
    ]
    | inr new ↦ (let q = is_new (Call inc l.act l.last op) new in elim (find_link k l e) [
      | inl s ↦ (let eo : op ≡ h.op = cc in let z : Some h.op ≡ Some asked = sym h.called.pending
          ∙ (ap (λ (x : Link). x.pending) (sym s.1) ∙ p) in cc)
      | inr s ↦ absurd (alone k l s.0 s.1 (cc))
    ])
  ]

  in_step : (k : ℕ) (l : Link) → after k ≡ Some l → IsHonest hostile l.inc → InStep l (acts l.inc l.act)
  in_step k l e honest = elim (find_link k l e) [
    | inl s ↦ (let was : InStep h.before (acts h.before.inc h.before.act) =
        f.in_step o h.before h.was (subst (IsHonest hostile) (ap (λ (x : Link). x.inc) s.1 ∙ h.called.inc)
        honest) in
        let now : InStep h.link (acts h.before.inc h.before.act) = is_behind h.before h.link h.op h.called _ was in
        subst (λ (x : Link). InStep x (acts x.inc x.act)) (sym s.1)
        (subst (λ x. InStep h.link (acts x h.link.act)) (sym h.called.inc)
        (subst (λ x. InStep h.link (acts h.before.inc x)) (sym h.called.act) now)))
    | inr s ↦ f.in_step k l s.1 honest
  ]

  saved_same : (k : ℕ) (l : Link) (c : Stored) → after k ≡ Some l → IsHonest hostile l.inc → l.saved ≡ Some c
      → HasSaved c (acts l.inc l.act)
  saved_same k l c e honest g = elim (find_link k l e) [
    | inl s ↦ saved_kept acts h.before l c (ap (λ (x : Link). x.inc) s.1 ∙ h.called.inc)
        (ap (λ (x : Link). x.act) s.1 ∙ h.called.act)
        (elim h.called.saved [
          | inl q ↦ inl (ap (λ (x : Link). x.saved) s.1 ∙ q)
          | inr q ↦
              inr (ap (λ (x : Link). x.saved) s.1 ∙ q)
        ])
        (f.saved_same o h.before c h.was (subst (IsHonest hostile) (ap (λ (x : Link). x.inc) s.1 ∙ h.called.inc)
        honest)) g
    | inr s ↦ f.saved_same k l c s.1 honest g
  ]

  linked : (inc act : ℕ) → IsLinked links inc act → IsLinked after inc act
  linked inc act g = linked_kept links after o inc act h.before h.link h.was h.is h.others h.called.inc h.called.act g

  ends_back : NoMoreEnds links after sent (sent ++ more)
  ends_back inc act n k s (called g) = elim (among_join sent more (Call inc act n (SaveCompleted k s)) g) [
    | inl old ↦ called old
    | inr new ↦ (let q = is_new (Call inc act n (SaveCompleted k s)) new in
        let ei : inc ≡ h.link.inc = cc in
        let ea : act ≡ h.link.act = cc in
        let en : n ≡ h.link.last = cc in
        let eo : SaveCompleted k s ≡ h.op = cc in
        let el : h.link.last ≡ h.before.last + 1 = h.called.last in
        waits o h.before 0 h.was (sym h.called.inc ∙ sym ei) (sym h.called.act ∙ sym ea)
        (ap (λ xs. slice_get xs 0) h.waited ∙ ap Some (sym eo)) (omega arith))
  ]
  ends_back inc act n k s (waits x l i e ei ea at en) = elim (find_link x l e) [
    | inl z ↦ (let el : l.last ≡ h.before.last + 1 = ap (λ (y : Link). y.last) z.1 ∙ h.called.last in
        let en' : n ≡ l.last + 1 + i = en in
        waits o h.before (suc i) h.was (sym h.called.inc ∙ (ap (λ (y : Link). y.inc) (sym z.1) ∙ ei))
        (sym h.called.act ∙ (ap (λ (y : Link). y.act) (sym z.1) ∙ ea))
        (ap (λ y. slice_get y (suc i)) h.waited
        ∙ (ap (λ y. slice_get y i) (sym h.waiting ∙ ap (λ (y : Link). y.waiting) (sym z.1)) ∙ at))
        (omega arith))
    | inr z ↦ waits x l i z.1 ei ea at en
  ]

  no_reply : (inc act n : ℕ) (r : Answer) → Among more (Reply inc act n r) → ⊥
  no_reply inc act n r g = (let q = is_new (Reply inc act n r) g in cc)

  pub sent_next : Facts hostile after acts lives (sent ++ more) owners last counted served
  sent_next = record {
    drawn = record {
      many = f.drawn.many;
      acts_drawn = f.drawn.acts_drawn;
      acts_called = f.drawn.acts_called;
      calls_drawn = λ inc act n op g. elim (among_join sent more (Call inc act n op) g) [
        | inl old ↦ f.drawn.calls_drawn inc act n op old
        | inr new ↦ (let q = is_new (Call inc act n op) new in let ea : act ≡ h.link.act = cc in let w = within in
            omega arith)
      ];
      calls_named = named;
      servers_told = told;
      calls_told = λ inc act n op g. elim (among_join sent more (Call inc act n op) g) [
        | inl old ↦ f.drawn.calls_told inc act n op old
        | inr new ↦ (let q = is_new (Call inc act n op) new in let ei : inc ≡ h.link.inc = cc in
            let t = told o h.link h.is in (t.0, ap lives ei ∙ t.1))
      ];
    };
    calls = record { bounded = bounded; pending = pending };
    in_step = in_step;
    one_ahead = ahead_sent hostile after acts sent more in_step
        (λ inc act n op g. (let q = is_new (Call inc act n op) g in (o, h.link, h.is, (cc), (cc), (cc))))
        f.one_ahead;
    unlinked = record {
      called = λ inc act n op honest lv g. elim (among_join sent more (Call inc act n op) g) [
        | inl old ↦ elim (f.unlinked.called inc act n op honest lv old) [
          | inl x ↦ inl (linked inc act x)
          | inr x ↦
              inr x
        ]
        | inr new ↦ (let q = is_new (Call inc act n op) new in let ei : inc ≡ h.link.inc = cc in
            let ea : act ≡ h.link.act = cc in inl (o, h.link, h.is, sym ei, sym ea))
      ];
      known = λ inc act a honest lv g. elim (f.unlinked.known inc act a honest lv g) [
        | inl x ↦
            inl (linked inc act x)
        | inr x ↦ inr x
      ];
    };
    replies = only_calls acts sent more no_reply f.replies;
    saved_same = saved_same;
    counts = counts_kept links after acts sent (sent ++ more) owners counted served ends_back
        (λ m g. among_old sent more m g) f.counts;
  }
