-- A server takes a call: what stays of numbers, calls, replies and what is in step. Where it is hostile, its link says
-- nothing of its activation, and only what speaks of all servers is kept of it.
use Rattle.std.proofs.Common.{◌≡◌, ◌⊎◌, ℕ, Bool, slice_get, ◌+◌, ◌<◌, ◌≤◌, List, [], ◌∷◌, ◌++◌, Option, Some, None}
use Rattle.std.proofs.Common.{refl, sym, ap, ◌∙◌, inl, inr, arith, subst}
use Rattle.message_values.specs.Found.{nth}
use Rattle.message_values.specs.Operations.{op_of}
use Rattle.message_values.specs.declared.message.Said.{Said}
use Rattle.message_values.specs.declared.message.Said.TheVariants.{Call, Reply}
use Rattle.message_values.specs.declared.operation.Operation.{Operation}
use Rattle.message_values.specs.declared.operation.Operation.TheVariants.{Save, SaveCompleted}
use Rattle.message_values.specs.declared.answer.Answer.{Answer}
use Rattle.object_state.specs.Both as both
use Rattle.tree_streams.specs.declared.stored.Stored.{Stored}
use Rattle.server_model.specs.Server.{Activation}
use Rattle.server_model.specs.declared.counted.Counted.{Counted}
use Rattle.container_model.specs.declared.record.Link.{Link}
use Rattle.world_model.specs.declared.life.Life.TheVariants.{Running}
use Rattle.container_model.specs.declared.answer.Done.{Done}
use Rattle.world_model.specs.declared.logs.ServerDone.{ServerDone}
use Rattle.world_model.specs.World.{nth_or_zero}
use Rattle.world_model.specs.Safe.{Among}
use Rattle.world_facts.specs.Words.{Links, Acts, Lives, IsHonest, IsLinked, IsOpen, IsClosed, Issued, called, waits}
use Rattle.world_facts.specs.Facts.{Drawn, CallsBounded, InStep, not_begun, level, behind, ahead, Did, InSteps}
use Rattle.world_facts.specs.Facts.{last_acted, OneAhead, UnlinkedClosed, Replies, HasSaved, SavedSame, Counts, Facts}
use Rattle.world_facts.specs.Shapes.{IsFirst, IsChanged, Makes, ActsOn, again, next, makes, IsReady, entries_of}
use Rattle.world_facts.proofs.Lookups.{among_join, among_old, among_new}
use Rattle.world_facts.proofs.Issuing.{same_act, once_join, once_entries}

module _ {hostile : List ℕ} (links : Links) (acts after : Acts) (lives : Lives) (sent : List Said) (owners : List ℕ)
    (last : ℕ) (counted : List Done) (served : List ServerDone)
    (inc act n : ℕ) (op : Operation) (a : Activation) (r : Answer) (told : Option Counted)
    (f : Facts hostile links acts lives sent owners last counted served) (ready : IsReady links)
    (call : Among sent (Call inc act n op)) (ch : IsChanged acts after inc act a)
    (how : ActsOn acts inc act n op a r told) where
  abbrev pub more : List Said
  more = sent ++ Reply inc act n r ∷ []

  pub old_call : (i x m : ℕ) (p : Operation) → Among more (Call i x m p) → Among sent (Call i x m p)
  old_call i x m p g = elim (among_join sent (Reply inc act n r ∷ []) (Call i x m p) g) [
    | inl old ↦ old
    | inr new ↦
        elim new [ inl e ↦ absurd (cc) | inr z ↦ absurd z ]
  ]

  -- at an honest server the call is of a link, whose pending operation it is, unless the activation is closed
  pub record IsPending (o : ℕ) (l : Link) : Type 0 where
    pub at : links o ≡ Some l
    pub inc_is : l.inc ≡ inc
    pub act_is : l.act ≡ act
    pub step : InStep l (acts inc act)
    pub bound : n ≤ l.last
    pub pending : (asked : Operation) → l.pending ≡ Some asked → n ≡ l.last → op ≡ asked

  pub of_link : (o : ℕ) (l : Link) → links o ≡ Some l → l.inc ≡ inc → l.act ≡ act → IsHonest hostile inc → IsPending o l
  of_link o l at ei ea honest =
      let mine : Among sent (Call inc l.act n op) = subst (λ x. Among sent (Call inc x n op)) (sym ea) call in
      record {
        at = at;
        inc_is = ei;
        act_is = ea;
        step = subst (λ x. InStep l (acts inc x)) ea
            (subst (λ x. InStep l (acts x l.act)) ei (f.in_step o l at (subst (IsHonest hostile) (sym ei) honest)));
        bound = (f.calls.bounded o inc n op l at mine).1;
        pending = λ asked p e. f.calls.pending o inc op asked l at p
            (subst (λ x. Among sent (Call inc l.act x op)) e mine);
      }

  pub linked_or_closed : IsHonest hostile inc → lives inc ≡ Some Running → IsLinked links inc act
      ⊎ IsClosed (acts inc act)
  linked_or_closed honest runs = f.unlinked.called inc act n op honest runs call

  -- the next call of an activation is the pending one of its link, which is at the activation's states
  pub record IsNextOf (l : Link) (b : Activation) : Type 0 where
    pub asked : l.pending ≡ Some op
    pub number : n ≡ l.last
    pub states : b.states ≡ l.states
    pub grant : b.s ≡ l.s

  pub next_of : (o : ℕ) (l : Link) (b : Activation) → IsPending o l → n ≡ b.last + 1 → (x : Option Activation)
      → x ≡ Some b → InStep l x → IsNextOf l b
  next_of o l b p en _ e (not_begun q one v s g) = absurd (let z : None ≡ Some b = e in cc)
  next_of o l b p en _ e (level y g el v) = (let z : Some y ≡ Some b = e in let is : y ≡ b = cc in
      let lb : b.last ≡ l.last = ap (λ (w : Activation). w.last) (sym is) ∙ el in let le : n ≤ l.last = p.bound in
      absurd (omega arith))
  next_of o l b p en _ e (behind y q g el v) = (let z : Some y ≡ Some b = e in let is : y ≡ b = cc in
      let nl : n ≡ l.last = en ∙ (ap (λ (w : Activation). w.last + 1) (sym is) ∙ el) in
      let oq : op ≡ q = p.pending q g nl in
      record {
        asked = g ∙ ap Some (sym oq);
        number = nl;
        states = ap (λ (w : Activation). w.states) (sym is)
            ∙ v.states;
        grant = ap (λ (w : Activation). w.s) (sym is) ∙ v.grant;
      })
  next_of o l b p en _ e (ahead y q g el d) = (let z : Some y ≡ Some b = e in let is : y ≡ b = cc in
      let lb : b.last ≡ l.last = ap (λ (w : Activation). w.last) (sym is) ∙ el in let le : n ≤ l.last = p.bound in
      absurd (omega arith))

  -- an activation that is next was called before, so its operation makes none
  pub not_first : (o : ℕ) (l : Link) (b : Activation) → acts inc act ≡ Some b → links o ≡ Some l → n ≡ b.last + 1
      → IsNextOf l b → IsFirst op → ⊥
  not_first o l b at lk en x fo = (let one = (ready.first o l op lk x.asked fo).0 in let nl = x.number in
      let le : 1 ≤ b.last = f.drawn.acts_called inc act b at in absurd (omega arith))

  step_next : (o : ℕ) (l : Link) (b : Activation) → IsPending o l → acts inc act ≡ Some b → n ≡ b.last + 1
      → Makes b op a r told → InStep l (Some a)
  step_next o l b p at en m =
      let x = next_of o l b p en _ at p.step in
      let v = ready.runs o l op p.at x.asked in
      let d : Did b.states b.s op a r = m.did v.0 (ap (λ y. both.step y (op_of op)) x.states ∙ v.1)
      (not_first o l b at p.at en x) in
      let d' : Did l.states l.s op a a.reply = subst (λ y. Did l.states l.s op a y) (sym m.reply)
      (subst (λ y. Did y l.s op a r) x.states (subst (λ y. Did b.states y op a r) x.grant d)) in
      let nl = x.number in let el = m.last in
      ahead a op x.asked (omega arith) d'

  step_first : (o : ℕ) (l : Link) → IsPending o l → n ≡ 1 → a.last ≡ 1 → a.reply ≡ r → Did both.loaded 0 op a r
      → (x : Option Activation) → x ≡ None → InStep l x → InStep l (Some a)
  step_first o l p one al ar d _ e (not_begun q l1 v s g) =
      let nl : n ≡ l.last = one ∙ sym l1 in
      let oq : op ≡ q = p.pending q g nl in
      let d' : Did l.states l.s q a a.reply = subst (λ y. Did l.states l.s q a y) (sym ar)
      (subst (λ y. Did l.states l.s y a r) oq
      (subst (λ y. Did y l.s op a r) (sym v) (subst (λ y. Did both.loaded y op a r) (sym s) d))) in
      ahead a q g (al ∙ sym l1) d'
  step_first o l p one al ar d _ e (level y g el v) = absurd (let z : Some y ≡ None = e in cc)
  step_first o l p one al ar d _ e (behind y q g el v) = absurd (let z : Some y ≡ None = e in cc)
  step_first o l p one al ar d _ e (ahead y q g el v) = absurd (let z : Some y ≡ None = e in cc)

  step_here : (o : ℕ) (l : Link) → IsPending o l → ActsOn acts inc act n op a r told → InStep l (Some a)
  step_here o l p (again at en er ec) = subst (InStep l) at p.step
  step_here o l p (next b at en opened m) = step_next o l b p at en m
  step_here o l p (makes at en fo al ar d ec eg) = step_first o l p en al ar d _ at p.step

  pub in_step : InSteps hostile links after
  in_step o l e h = elim (same_act l.inc l.act inc act) [
    | inl s ↦ subst (λ x. InStep l (after x l.act)) (sym s.0)
        (subst (λ x. InStep l (after inc x)) (sym s.1)
        (subst (InStep l) (sym ch.here) (step_here o l (of_link o l e s.0 s.1 (subst (IsHonest hostile) s.0 h))
        how)))
    | inr d ↦ subst (InStep l) (sym (ch.others l.inc l.act d)) (f.in_step o l e h)
  ]

  -- an activation comes only further, so no call is further ahead of it than before
  come_further : ActsOn acts inc act n op a r told → last_acted (acts inc act) ≤ a.last
  come_further (again at en er ec) = (let was : last_acted (acts inc act) ≡ a.last = ap last_acted at in omega arith)
  come_further (next b at en opened m) = (let was : last_acted (acts inc act) ≡ b.last = ap last_acted at in
      let el = m.last in omega arith)
  come_further (makes at en fo al ar d ec eg) = (let was : last_acted (acts inc act) ≡ 0 = ap last_acted at in
      omega arith)

  pub one_ahead : OneAhead hostile after more
  one_ahead i x m p h g = (let was : m ≤ last_acted (acts i x) + 1 = f.one_ahead i x m p h (old_call i x m p g) in
      elim (same_act i x inc act) [
        | inl s ↦ (let before : last_acted (acts i x) ≡ last_acted (acts inc act) = ap (λ y. last_acted (acts y x)) s.0
            ∙ ap (λ y. last_acted (acts inc y)) s.1 in
            let now : last_acted (after i x) ≡ a.last = ap (λ y. last_acted (after y x)) s.0
            ∙ (ap (λ y. last_acted (after inc y)) s.1 ∙ ap last_acted ch.here) in
            let le = come_further how in omega arith)
        | inr d ↦ subst (λ y. m ≤ last_acted y + 1) (sym (ch.others i x d)) was
      ])

  -- an activation that acts was called
  called_here : ActsOn acts inc act n op a r told → 1 ≤ a.last
  called_here (again at en er ec) = f.drawn.acts_called inc act a at
  called_here (next b at en opened m) = (let el = m.last in omega arith)
  called_here (makes at en fo al ar d ec eg) = omega arith

  pub drawn : Drawn links after lives more owners last
  drawn = record {
    many = f.drawn.many;
    acts_drawn = λ i x b e. elim (same_act i x inc act) [
      | inl s ↦ (let le : act ≤ last = f.drawn.calls_drawn inc act n op call in let q : x ≡ act = s.1 in omega arith)
      | inr d ↦ f.drawn.acts_drawn i x b (sym (ch.others i x d) ∙ e)
    ];
    acts_called = λ i x b e. elim (same_act i x inc act) [
      | inl s ↦ (let z : Some a ≡ Some b = sym ch.here
          ∙ (ap (after inc) (sym s.1) ∙ (ap (λ y. after y x) (sym s.0) ∙ e)) in let is : a ≡ b = cc in
          subst (λ (y : Activation). 1 ≤ y.last) is (called_here how))
      | inr d ↦ f.drawn.acts_called i x b (sym (ch.others i x d) ∙ e)
    ];
    calls_drawn = λ i x m p g. f.drawn.calls_drawn i x m p (old_call i x m p g);
    calls_named = f.drawn.calls_named;
    servers_told = f.drawn.servers_told;
    calls_told = λ i x m p g. f.drawn.calls_told i x m p (old_call i x m p g);
  }

  pub calls : CallsBounded links more
  calls = record {
    bounded = λ o i m p l e g. f.calls.bounded o i m p l e (old_call i l.act m p g);
    pending = λ o i p asked l e q g. f.calls.pending o i p asked l e q (old_call i l.act l.last p g);
  }

  closed_here : IsClosed (acts inc act) → ActsOn acts inc act n op a r told → a.content ≡ None
  closed_here c (again at en er ec) = subst IsClosed at c
  closed_here c (next b at en opened m) = absurd (let z : b.content ≡ None = subst IsClosed at c in
      let y : None ≡ Some opened.0 = sym z ∙ opened.1 in cc)
  closed_here c (makes at en fo al ar d ec eg) = absurd (subst IsClosed at c)

  known_here : IsHonest hostile inc → lives inc ≡ Some Running → ActsOn acts inc act n op a r told
      → IsLinked links inc act ⊎ (a.content ≡ None)
  known_here honest runs h = elim (linked_or_closed honest runs) [ inl g ↦ inl g | inr c ↦ inr (closed_here c h) ]

  pub unlinked : UnlinkedClosed hostile links after lives more
  unlinked = record {
    called = λ i x m p h lv g. elim (f.unlinked.called i x m p h lv (old_call i x m p g)) [
      | inl k ↦ inl k
      | inr c ↦ elim (same_act i x inc act) [
        | inl s ↦ (let c' : IsClosed (acts inc act) = subst (λ y. IsClosed (acts inc y)) s.1
            (subst (λ y. IsClosed (acts y x)) s.0 c) in
            inr (subst (λ y. IsClosed (after y x)) (sym s.0)
            (subst (λ y. IsClosed (after inc y)) (sym s.1)
            (subst IsClosed (sym ch.here) (closed_here c' how)))))
        | inr d ↦ inr (subst IsClosed (sym (ch.others i x d)) c)
      ]
    ];
    known = λ i x b h lv e. elim (same_act i x inc act) [
      | inl s ↦ (let z : Some a ≡ Some b = sym ch.here
          ∙ (ap (after inc) (sym s.1) ∙ (ap (λ y. after y x) (sym s.0) ∙ e)) in let is : a ≡ b = cc in
          elim (known_here (subst (IsHonest hostile) s.0 h) (ap lives (sym s.0) ∙ lv) how) [
            | inl k ↦ inl (k.0, k.1, k.2, k.3 ∙ sym s.0, k.4 ∙ sym s.1)
            | inr c ↦ inr (subst (λ (y : Activation). y.content ≡ None) is c)
          ])
      | inr d ↦ f.unlinked.known i x b h lv (sym (ch.others i x d) ∙ e)
    ];
  }

  -- which reply stands in the log: an old one, or the one that is sent now
  which_reply : (i x m : ℕ) (q : Answer) → Among more (Reply i x m q) → Among sent (Reply i x m q)
      ⊎ ((i ≡ inc) × (x ≡ act) × (m ≡ n) × (q ≡ r))
  which_reply i x m q g = elim (among_join sent (Reply inc act n r ∷ []) (Reply i x m q) g) [
    | inl old ↦
        inl old
    | inr new ↦ elim new [ inl e ↦ inr (cc, cc, cc, cc) | inr z ↦ absurd z ]
  ]

  -- an old reply of the activation is within its calls now, and is the one that it keeps where it is to the last
  come_before : (m : ℕ) (q : Answer) (b : Activation) → acts inc act ≡ Some b → m ≤ b.last
      → (m ≡ b.last → q ≡ b.reply) → ActsOn acts inc act n op a r told → (m ≤ a.last) × (m ≡ a.last → q ≡ a.reply)
      × (m ≡ n → q ≡ r)
  come_before m q b at le same (again at' en er ec) =
      let z : Some b ≡ Some a = sym at ∙ at' in
      let is : b ≡ a = cc in
      let bl : b.last ≡ a.last = ap (λ (y : Activation). y.last) is in
      let br : b.reply ≡ a.reply = ap (λ (y : Activation). y.reply) is in (
        omega arith,
        (λ e. same (omega arith) ∙ br),
        (λ e. (same (let x : m ≡ a.last = e ∙ en in omega arith))
            ∙ (br ∙ sym er)),
      )
  come_before m q b at le same (next b' at' en opened k) =
      let z : Some b ≡ Some b' = sym at ∙ at' in
      let is : b ≡ b' = cc in
      let bl : b.last ≡ b'.last = ap (λ (y : Activation). y.last) is in
      let el = k.last in
      (omega arith, (λ e. absurd (omega arith)), (λ e. absurd (omega arith)))
  come_before m q b at le same (makes at' en fo al ar d ec eg) = absurd (let z : Some b ≡ None = sym at ∙ at' in cc)

  reply_here : ActsOn acts inc act n op a r told → (n ≤ a.last) × (n ≡ a.last → r ≡ a.reply)
      × ((a.last ≡ n) × (a.reply ≡ r))
  reply_here (again at en er ec) = (let el : n ≡ a.last = en in omega arith, (λ e. er), (sym en, sym er))
  reply_here (next b at en opened k) = (let el : a.last ≡ n = k.last ∙ sym en in
      (omega arith, (λ e. sym k.reply), (el, k.reply)))
  reply_here (makes at en fo al ar d ec eg) =
      (let el : a.last ≡ n = al ∙ sym en in (omega arith, (λ e. sym ar), (el, ar)))

  replies_kept_now : (i x m : ℕ) (q : Answer) → Among sent (Reply i x m q) → (b : Activation) × (after i x ≡ Some b)
      × (m ≤ b.last) × (m ≡ b.last → q ≡ b.reply)
  replies_kept_now i x m q g = (let k = f.replies.replies_kept i x m q g in elim (same_act i x inc act) [
    | inl s ↦ (let at : acts inc act ≡ Some k.0 = ap (acts inc) (sym s.1) ∙ (ap (λ y. acts y x) (sym s.0) ∙ k.1) in
        let c = come_before m q k.0 at k.2 k.3 how in
        (a, ap (λ y. after y x) s.0 ∙ (ap (after inc) s.1 ∙ ch.here), c.0, c.1))
    | inr d ↦ (k.0, ch.others i x d ∙ k.1, k.2, k.3)
  ])

  same_reply : (q : Answer) → Among sent (Reply inc act n q) → q ≡ r
  same_reply q g = (let k = f.replies.replies_kept inc act n q g in (come_before n q k.0 k.1 k.2 k.3 how).2 refl)

  moved : (i x m : ℕ) (q : Answer) → (i ≡ inc) × (x ≡ act) × (m ≡ n) × (q ≡ r) → Among sent (Reply i x m q)
      → Among sent (Reply inc act n q)
  moved i x m q e g = subst (λ y. Among sent (Reply y act n q)) e.0
      (subst (λ y. Among sent (Reply i y n q)) e.1 (subst (λ y. Among sent (Reply i x y q)) e.2 g))

  pub replies : Replies after more
  replies = record {
    reply_numbered = λ i x b e. elim (same_act i x inc act) [
      | inl s ↦ (let z : Some a ≡ Some b = sym ch.here
          ∙ (ap (after inc) (sym s.1) ∙ (ap (λ y. after y x) (sym s.0) ∙ e)) in
          let is : a ≡ b = cc in
          let w = (reply_here how).2 in
          let now : Among more (Reply inc act a.last a.reply) = among_new sent (Reply inc act n r ∷ [])
          (Reply inc act a.last a.reply)
          (inl (ap (λ y. Reply inc act y a.reply) w.0 ∙ ap (λ y. Reply inc act n y) w.1)) in
          subst (λ (y : Activation). Among more (Reply i x y.last y.reply)) is
          (subst (λ y. Among more (Reply y x a.last a.reply)) (sym s.0)
          (subst (λ y. Among more (Reply inc y a.last a.reply)) (sym s.1) now)))
      | inr d ↦ among_old sent (Reply inc act n r ∷ []) (Reply i x b.last b.reply)
          (f.replies.reply_numbered i x b (sym (ch.others i x d) ∙ e))
    ];
    replies_kept = λ i x m q g. elim (which_reply i x m q g) [
      | inl old ↦ replies_kept_now i x m q old
      | inr e ↦ (let w = reply_here how in (
        a,
        ap (λ y. after y x) e.0 ∙ (ap (after inc) e.1 ∙ ch.here),
        subst (λ y. y ≤ a.last) (sym e.2) w.0,
        (λ z. e.3 ∙ w.1 (sym e.2 ∙ z)),
      ))
    ];
    one_reply = λ i x m q p g g'. elim (which_reply i x m q g) [
      | inl old ↦ elim (which_reply i x m p g') [
        | inl old' ↦ f.replies.one_reply i x m q p old old'
        | inr e ↦ same_reply q (subst (λ y. Among sent (Reply y act n q)) e.0
            (subst (λ y. Among sent (Reply i y n q)) e.1 (subst (λ y. Among sent (Reply i x y q)) e.2 old)))
            ∙ sym e.3
      ]
      | inr e ↦ elim (which_reply i x m p g') [
        | inl old' ↦ e.3
            ∙ sym
            (same_reply p (subst (λ y. Among sent (Reply y act n p)) e.0
            (subst (λ y. Among sent (Reply i y n p)) e.1 (subst (λ y. Among sent (Reply i x y p)) e.2 old'))))
        | inr e' ↦ e.3 ∙ sym e'.3
      ]
    ];
  }

  saved_here : (o : ℕ) (l : Link) (c : Stored) → IsPending o l → l.saved ≡ Some c → HasSaved c (acts inc act)
      → ActsOn acts inc act n op a r told → a.saved ≡ Some c
  saved_here o l c p ls h (again at en er ec) = subst (HasSaved c) at h
  saved_here o l c p ls h (next b at en opened k) = elim k.saved [
    | inl s ↦ (let x = next_of o l b p en _ at p.step in
        absurd (let z : None ≡ Some c = sym (ready.saving o s.0 l p.at (x.asked ∙ ap Some s.1)) ∙ ls in cc))
    | inr e ↦ e ∙ subst (HasSaved c) at h
  ]
  saved_here o l c p ls h (makes at en fo al ar d ec eg) = absurd (subst (HasSaved c) at h)

  pub saved_same : SavedSame hostile links after
  saved_same o l c e h ls = elim (same_act l.inc l.act inc act) [
    | inl s ↦ (let was : HasSaved c (acts inc act) = subst (λ y. HasSaved c (acts inc y)) s.1
        (subst (λ y. HasSaved c (acts y l.act)) s.0 (f.saved_same o l c e h ls)) in
        let now : HasSaved c (after inc act) = subst (HasSaved c) (sym ch.here)
        (saved_here o l c (of_link o l e s.0 s.1 (subst (IsHonest hostile) s.0 h)) ls was how) in
        subst (λ y. HasSaved c (after y l.act)) (sym s.0) (subst (λ y. HasSaved c (after inc y)) (sym s.1) now))
    | inr d ↦ subst (HasSaved c) (sym (ch.others l.inc l.act d)) (f.saved_same o l c e h ls)
  ]

  abbrev pub entries : List ServerDone
  entries = entries_of inc act owners told

  issued_old : (i x m : ℕ) (p : Operation) → Issued links more i x m p → Issued links sent i x m p
  issued_old i x m p (called g) = called (old_call i x m p g)
  issued_old i x m p (waits o l j e ei ea at en) = waits o l j e ei ea at en

  -- where a first call acts, nothing waits
  first_alone : (o : ℕ) (l : Link) → IsPending o l → n ≡ 1 → IsFirst op → (x : Option Activation) → x ≡ None
      → InStep l x → l.waiting ≡ []
  first_alone o l p one fo _ e (not_begun q l1 v s g) =
      (let oq : op ≡ q = p.pending q g (one ∙ sym l1) in (ready.first o l op p.at (g ∙ ap Some (sym oq)) fo).1)
  first_alone o l p one fo _ e (level y g el v) = absurd (let z : Some y ≡ None = e in cc)
  first_alone o l p one fo _ e (behind y q g el v) = absurd (let z : Some y ≡ None = e in cc)
  first_alone o l p one fo _ e (ahead y q g el v) = absurd (let z : Some y ≡ None = e in cc)

  -- past the call that acts nothing was sent
  not_sent : IsHonest hostile inc → (m : ℕ) (p : Operation) → Among sent (Call inc act m p)
      → last_acted (acts inc act) + 1 < m → ⊥
  not_sent honest m p g lt = (let le = f.one_ahead inc act m p honest g in absurd (omega arith))

  -- where a save acts, no end of a save is issued behind it
  not_saving : IsHonest hostile inc → (b : Activation) → acts inc act ≡ Some b → n ≡ b.last + 1
      → (j k m : ℕ) (s : Bool) → op ≡ Save j → n < m → Issued links sent inc act m (SaveCompleted k s) → ⊥
  not_saving honest b at en j k m s sv lt (called g) =
      (let el : last_acted (acts inc act) ≡ b.last = ap last_acted at in
      not_sent honest m (SaveCompleted k s) g (omega arith))
  not_saving honest b at en j k m s sv lt (waits o l i e ei ea w em) =
      let p = of_link o l e ei ea honest in
      let x = next_of o l b p en _ at p.step in
      ready.apart o j k i s l e (x.asked ∙ ap Some sv) w

  -- where a first call acts, nothing is issued behind it
  not_beginning : IsHonest hostile inc → acts inc act ≡ None → n ≡ 1 → IsFirst op → (k m : ℕ) (s : Bool) → n < m
      → Issued links sent inc act m (SaveCompleted k s) → ⊥
  not_beginning honest at en fo k m s lt (called g) =
      (let el : last_acted (acts inc act) ≡ 0 = ap last_acted at in
      not_sent honest m (SaveCompleted k s) g (omega arith))
  not_beginning honest at en fo k m s lt (waits o l i e ei ea w em) =
      let p = of_link o l e ei ea honest in
      let alone = first_alone o l p en fo _ at p.step in
      let z : None ≡ Some (SaveCompleted k s) = ap (λ xs. slice_get xs i) (sym alone) ∙ w in absurd (cc)

  content_here : IsHonest hostile inc → (m k o : ℕ) (s : Bool) → Issued links sent inc act m (SaveCompleted k s)
      → IsOpen a → a.last < m → nth owners act ≡ Some o → ActsOn acts inc act n op a r told
      → (c : Stored) × (a.saved ≡ Some c) × Among counted (record { object = o; k = k; content = c })
  content_here honest m k o s i opened lt e (again at en er ec) =
      f.counts.completed_content inc act m k o s a i honest at opened lt e
  content_here honest m k o s i opened lt e (next b at en bo w) =
      let el = w.last in
      let before = f.counts.completed_content inc act m k o s b i honest at bo (omega arith) e in
      elim w.saved [
        | inl sv ↦ absurd (not_saving honest b at en sv.0 k m s sv.1 (omega arith) i)
        | inr same ↦ (before.0, same ∙ before.1, before.2)
      ]
  content_here honest m k o s i opened lt e (makes at en fo al ar d ec eg) =
      absurd (not_beginning honest at en fo k m s (omega arith) i)

  further : (b : Activation) → acts inc act ≡ Some b → ActsOn acts inc act n op a r told → b.last ≤ a.last
  further b at h = (let was : last_acted (acts inc act) ≡ b.last = ap last_acted at in let le = come_further h in
      omega arith)

  abbrev pub Called : ServerDone → Type 0
  Called e = (x m : ℕ) × (storage : Bool) × (b : Activation)
      × Among more (Call e.inc x m (SaveCompleted e.k storage)) × (nth owners x ≡ Some e.object)
      × (after e.inc x ≡ Some b) × (m ≤ b.last)

  called_old : (e : ServerDone) → Among served e → Called e
  called_old e g = (let c = f.counts.server_called e g in elim (same_act e.inc c.0 inc act) [
    | inl s ↦ (let le : c.3.last ≤ a.last =
        further c.3 (ap (acts inc) (sym s.1) ∙ (ap (λ y. acts y c.0) (sym s.0) ∙ c.6)) how in
        let l2 : c.1 ≤ c.3.last = c.7 in (
          c.0,
          c.1,
          c.2,
          a,
          among_old sent (Reply inc act n r ∷ []) (Call e.inc c.0 c.1 (SaveCompleted e.k c.2)) c.4,
          c.5,
          ap (λ y. after y c.0) s.0 ∙ (ap (after inc) s.1 ∙ ch.here),
          omega arith,
        ))
    | inr d ↦ (
      c.0,
      c.1,
      c.2,
      c.3,
      among_old sent (Reply inc act n r ∷ [])
          (Call e.inc c.0 c.1 (SaveCompleted e.k c.2)) c.4,
      c.5,
      ch.others e.inc c.0 d ∙ c.6,
      c.7,
    )
  ])

  -- the save that is counted now: its call, and what the container counted of an honest server
  record CountsNow (e : ServerDone) : Type 0 where
    pub storage : Bool
    pub is_inc : e.inc ≡ inc
    pub told_of : Among sent (Call inc act n (SaveCompleted e.k storage))
    pub owner : nth owners act ≡ Some e.object
    pub before : (b : Activation) × (acts inc act ≡ Some b) × (n ≡ b.last + 1) × (a.last ≡ n)
    pub same : IsHonest hostile inc → Among counted (record { object = e.object; k = e.k; content = e.content })

  counts_at : (v : Option Counted) → told ≡ v → (e : ServerDone) → Among (entries_of inc act owners v) e
      → ActsOn acts inc act n op a r told → CountsNow e
  counts_at None c e h k = absurd h
  counts_at (Some v) c e (inr h) k = absurd h
  counts_at (Some v) c e (inl is) (again at en er ec) = absurd (let z : Some v ≡ None = sym c ∙ ec in cc)
  counts_at (Some v) c e (inl is) (makes at en fo al ar d ec eg) = absurd (let z : Some v ≡ None = sym c ∙ ec in cc)
  counts_at (Some v) c e (inl is) (next b at en opened k) =
      let w = k.counts v c in
      let told_of : Among sent (Call inc act n (SaveCompleted v.k w.0)) =
      subst (λ (y : Operation). Among sent (Call inc act n y)) w.1 call in
      let d = f.counts.completed_counted inc act n v.k w.0 (called told_of) in
      let own : nth owners act ≡ Some d.0.object = d.2 in
      let ob : nth_or_zero (nth owners act) ≡ d.0.object = ap nth_or_zero own in
      let new : ServerDone = record {
        inc = inc;
        object = nth_or_zero (nth owners act);
        k = v.k;
        content = v.content;
      } in
      let sames : IsHonest hostile inc
      → Among counted (record { object = new.object; k = new.k; content = new.content }) =
      (λ honest. let ct = f.counts.completed_content inc act n v.k d.0.object w.0 b (called told_of) honest at
      opened (omega arith) own in
      let content : ct.0 ≡ v.content = (let z : Some ct.0 ≡ Some v.content = sym ct.1 ∙ w.2 in cc) in
      subst (λ y. Among counted (record { object = y; k = v.k; content = v.content })) (sym ob)
      (subst (λ y. Among counted (record { object = d.0.object; k = v.k; content = y })) content ct.2)) in
      let all : CountsNow new = record {
        storage = w.0;
        is_inc = refl;
        told_of = told_of;
        owner = own ∙ ap Some (sym ob);
        before = (b, at, en, k.last ∙ sym en);
        same = sames;
      } in
      subst CountsNow (sym is) all

  counts_of : (e : ServerDone) → Among entries e → CountsNow e
  counts_of e h = counts_at told refl e h how

  called_new : (e : ServerDone) → Among entries e → Called e
  called_new e h = (let c = counts_of e h in
      let b = c.before in
      let al : a.last ≡ n = b.3 in (
        act,
        n,
        c.storage,
        a,
        among_old sent (Reply inc act n r ∷ [])
            (Call e.inc act n (SaveCompleted e.k c.storage))
            (subst (λ y. Among sent (Call y act n (SaveCompleted e.k c.storage))) (sym c.is_inc) c.told_of),
        c.owner,
        ap (λ y. after y act) c.is_inc ∙ ch.here,
        omega arith,
      ))

  counts_now : Counts hostile links after more owners counted (served ++ entries)
  counts_now = record {
    completed_counted = λ i x m k s g. f.counts.completed_counted i x m k s (issued_old i x m (SaveCompleted k s) g);
    completed_once = λ i x m i' x' m' k o s s' g g' e e'. f.counts.completed_once i x m i' x' m' k o s s'
        (issued_old i x m (SaveCompleted k s) g) (issued_old i' x' m' (SaveCompleted k s') g') e e';
    completed_content = λ i x m k o s b g h e opened lt ow. elim (same_act i x inc act) [
      | inl q ↦ (let z : Some a ≡ Some b = sym ch.here
          ∙ (ap (after inc) (sym q.1) ∙ (ap (λ y. after y x) (sym q.0) ∙ e)) in
          let is : a ≡ b = cc in
          let g0 : Issued links sent inc act m (SaveCompleted k s) =
          subst (λ y. Issued links sent inc y m (SaveCompleted k s)) q.1
          (subst (λ y. Issued links sent y x m (SaveCompleted k s)) q.0
          (issued_old i x m (SaveCompleted k s) g)) in
          let c = content_here (subst (IsHonest hostile) q.0 h) m k o s g0 (subst IsOpen (sym is) opened)
          (subst (λ (y : Activation). y.last < m) (sym is) lt) (ap (nth owners) (sym q.1) ∙ ow) how in
          (c.0, ap (λ (y : Activation). y.saved) (sym is) ∙ c.1, c.2))
      | inr d ↦ f.counts.completed_content i x m k o s b (issued_old i x m (SaveCompleted k s) g) h
          (sym (ch.others i x d) ∙ e) opened lt ow
    ];
    server_called = λ e h. elim (among_join served entries e h) [ inl g ↦ called_old e g | inr g ↦ called_new e g ];
    server_once = once_join served entries f.counts.server_once (once_entries inc act owners told)
        (λ d e g h q kk. (let p = f.counts.server_called d g in let c = counts_of e h in
        let told_of : Among sent (Call inc act n (SaveCompleted d.k c.storage)) =
        subst (λ y. Among sent (Call inc act n (SaveCompleted y c.storage))) (sym kk) c.told_of in
        let one = f.counts.completed_once inc act n d.inc p.0 p.1 d.k d.object c.storage p.2 (called told_of)
        (called p.4) (c.owner ∙ ap Some (sym q)) p.5 in
        let at : acts inc act ≡ Some p.3 = ap (acts inc) one.1 ∙ (ap (λ y. acts y p.0) one.0 ∙ p.6) in
        let z : Some c.before.0 ≡ Some p.3 = sym c.before.1 ∙ at in
        let is : c.before.0 ≡ p.3 = cc in
        let ls : c.before.0.last ≡ p.3.last = ap (λ (y : Activation). y.last) is in
        let le : p.1 ≤ p.3.last = p.7 in
        let em : n ≡ c.before.0.last + 1 = c.before.2 in
        let mn : n ≡ p.1 = one.2 in
        absurd (omega arith)));
    server_counted = λ e g h. elim (among_join served entries e g) [
      | inl old ↦
          f.counts.server_counted e old h
      | inr new ↦
          (let c = counts_of e new in c.same (subst (IsHonest hostile) c.is_inc h))
    ];
  }

  pub acted : Facts hostile links after lives more owners last counted (served ++ entries)
  acted = record {
    drawn = drawn;
    calls = calls;
    in_step = in_step;
    one_ahead = one_ahead;
    unlinked = unlinked;
    replies = replies;
    saved_same = saved_same;
    counts = counts_now;
  }
