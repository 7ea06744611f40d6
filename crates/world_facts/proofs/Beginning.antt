-- An object without a link gets one, with a number that was drawn now: each fact stays.
use Rattle.std.proofs.Common.{◌≡◌, ◌≢◌, ◌⊎◌, ℕ, ◌+◌, ◌≤◌, Bool, List, [], ◌∷◌, ◌++◌, length, Option, Some, None, refl}
use Rattle.std.proofs.Common.{sym, ap, ◌∙◌, inl, inr, arith, subst, slice_get}
use Rattle.message_values.specs.Found.{nth}
use Rattle.message_values.specs.declared.message.Said.{Said}
use Rattle.message_values.specs.declared.message.Said.TheVariants.{Call, Reply}
use Rattle.message_values.specs.declared.operation.Operation.{Operation}
use Rattle.message_values.specs.declared.operation.Operation.TheVariants.{SaveCompleted}
use Rattle.message_values.specs.declared.answer.Answer.{Answer}
use Rattle.tree_streams.specs.declared.stored.Stored.{Stored}
use Rattle.server_model.specs.Server.{Activation}
use Rattle.container_model.specs.Commands.{begun_link}
use Rattle.container_model.specs.declared.record.Link.{Link}
use Rattle.world_model.specs.declared.life.Life.{Life}
use Rattle.container_model.specs.declared.answer.Done.{Done}
use Rattle.world_model.specs.declared.logs.ServerDone.{ServerDone}
use Rattle.world_model.specs.Safe.{Among}
use Rattle.world_facts.specs.Words.{Links, Acts, Lives, IsHonest, IsLinked, Issued, called, waits}
use Rattle.world_facts.specs.Facts.{InStep, not_begun, HasSaved, Counts, Facts}
use Rattle.world_facts.specs.Shapes.{Begins}
use Rattle.world_facts.proofs.Lookups.{among_join, among_old, nth_old, nth_bound}
use Rattle.world_facts.proofs.Issuing.{NoMoreEnds, counts_kept, which}
use Rattle.world_facts.proofs.Sending.{ahead_sent, only_calls}
use Rattle.std.proofs.lemmas.Bool.Decides.{eqb_tells}

-- more activations are made: what was counted stays
pub counts_owned : {hostile : List ℕ} (links : Links) (acts : Acts) (sent : List Said) (owners extra : List ℕ)
    (counted : List Done) (served : List ServerDone) → Counts hostile links acts sent owners counted served
    → Counts hostile links acts sent (owners ++ extra) counted served
counts_owned links acts sent owners extra counted served h = record {
  completed_counted = λ inc act n k s i. (let c = h.completed_counted inc act n k s i in
      (c.0, c.1, nth_old owners extra act c.0.object c.2, c.3));
  completed_once = λ inc act n inc' act' n' k o s s' i j e e'. h.completed_once inc act n inc' act' n' k o s s' i j
      (owned inc act n k o s i e) (owned inc' act' n' k o s' j e');
  completed_content = λ inc act n k o s a i honest at op lt e. h.completed_content inc act n k o s a i honest at op
      lt (owned inc act n k o s i e);
  server_called = λ e g. (let c = h.server_called e g in
      (c.0, c.1, c.2, c.3, c.4, nth_old owners extra c.0 e.object c.5, c.6, c.7));
  server_once = h.server_once;
  server_counted = h.server_counted;
}
  where
    owned : (inc act n k o : ℕ) (s : Bool) → Issued links sent inc act n (SaveCompleted k s)
        → nth (owners ++ extra) act ≡ Some o → nth owners act ≡ Some o
    owned inc act n k o s i e = (let c = h.completed_counted inc act n k s i in
        let z : Some c.0.object ≡ Some o = sym (nth_old owners extra act c.0.object c.2) ∙ e in
        let q : c.0.object ≡ o = cc in c.2 ∙ ap Some q)

module _ {hostile : List ℕ} (links after : Links) (acts : Acts) (lives : Lives) (sent more : List Said)
    (owners extra : List ℕ) (last : ℕ) (counted : List Done) (served : List ServerDone) (o : ℕ)
    (h : Begins links after lives (owners ++ extra) last o more) (many : length (owners ++ extra) ≡ last + 1)
    (f : Facts hostile links acts lives sent owners last counted served) where
  abbrev pub link : Link
  link = begun_link h.session h.inc (last + 1) h.op

  find_link : (k : ℕ) (l : Link) → after k ≡ Some l → ((k ≡ o) × (l ≡ link)) ⊎ ((k ≢ o) × (links k ≡ Some l))
  find_link k l e = which links after o k link l h.is h.others e

  is_new : (m : Said) → Among more m → m ≡ Call h.inc (last + 1) 1 h.op
  is_new m g = at (subst (λ xs. Among xs m) h.sends g)
    where
      at : Among (Call h.inc (last + 1) 1 h.op ∷ []) m → m ≡ Call h.inc (last + 1) 1 h.op
      at (inl e) = e
      at (inr z) = absurd z

  -- the links that were there have numbers drawn before
  before : (k : ℕ) (l : Link) → links k ≡ Some l → l.act ≤ last
  before k l e = (let b = nth_bound owners l.act k (f.drawn.calls_named k l e) in let q = f.drawn.many in omega arith)

  named : (k : ℕ) (l : Link) → after k ≡ Some l → nth (owners ++ extra) l.act ≡ Some k
  named k l e = elim (find_link k l e) [
    | inl s ↦ ap (λ (x : Link). nth (owners ++ extra) x.act) s.1 ∙ (h.owner ∙ ap Some (sym s.0))
    | inr s ↦ nth_old owners extra l.act k (f.drawn.calls_named k l s.1)
  ]

  told : (k : ℕ) (l : Link) → after k ≡ Some l → (life : Life) × (lives l.inc ≡ Some life)
  told k l e = elim (find_link k l e) [
    | inl s ↦ (h.hosted.0, ap (λ (x : Link). lives x.inc) s.1 ∙ h.hosted.1)
    | inr s ↦ f.drawn.servers_told k l s.1
  ]

  bounded : (k inc n : ℕ) (op : Operation) (l : Link) → after k ≡ Some l
      → Among (sent ++ more) (Call inc l.act n op) → (inc ≡ l.inc) × (n ≤ l.last)
  bounded k inc n op l e g = elim (among_join sent more (Call inc l.act n op) g) [
    | inl old ↦ elim (find_link k l e) [
      | inl s ↦ (let le : l.act ≤ last = f.drawn.calls_drawn inc l.act n op old in
          let ea : l.act ≡ last + 1 = ap (λ (x : Link). x.act) s.1 in absurd (omega arith))
      | inr s ↦ f.calls.bounded k inc n op l s.1 old
    ]
    | inr new ↦ (let q = is_new (Call inc l.act n op) new in elim (find_link k l e) [
      | inl s ↦ (let en : n ≡ 1 = cc in let el : l.last ≡ 1 = ap (λ (x : Link). x.last) s.1 in
          let ei : inc ≡ h.inc = cc in (ei ∙ ap (λ (x : Link). x.inc) (sym s.1), omega arith))
      | inr s ↦ (let ea : l.act ≡ last + 1 = cc in let le = before k l s.1 in absurd (omega arith))
    ])
  ]

  pending : (k inc : ℕ) (op asked : Operation) (l : Link) → after k ≡ Some l → l.pending ≡ Some asked
      → Among (sent ++ more) (Call inc l.act l.last op) → op ≡ asked
  pending k inc op asked l e p g = elim (among_join sent more (Call inc l.act l.last op) g) [
    | inl old ↦ elim (find_link k l e) [
      | inl s ↦ (let le : l.act ≤ last = f.drawn.calls_drawn inc l.act l.last op old in
          let ea : l.act ≡ last + 1 = ap (λ (x : Link). x.act) s.1 in absurd (omega arith))
      | inr s ↦ f.calls.pending k inc op asked l s.1 p old
    ]
    | inr new ↦ (let q = is_new (Call inc l.act l.last op) new in elim (find_link k l e) [
      | inl s ↦ (let eo : op ≡ h.op = cc in let z : Some h.op ≡ Some asked = ap (λ (x : Link). x.pending) (sym s.1)
          ∙ p in cc)
      | inr s ↦ (let ea : l.act ≡ last + 1 = cc in let le = before k l s.1 in absurd (omega arith))
    ])
  ]

  absent : (x : Option Activation) → acts h.inc (last + 1) ≡ x → x ≡ None
  absent None e = refl
  absent (Some a) e = (let le : last + 1 ≤ last = f.drawn.acts_drawn h.inc (last + 1) a e in absurd (omega arith))

  in_step : (k : ℕ) (l : Link) → after k ≡ Some l → IsHonest hostile l.inc → InStep l (acts l.inc l.act)
  in_step k l e honest = elim (find_link k l e) [
    | inl s ↦ subst (λ (x : Link). InStep x (acts x.inc x.act)) (sym s.1)
        (subst (InStep link) (sym (absent (acts h.inc (last + 1)) refl)) (not_begun h.op refl refl refl refl))
    | inr s ↦ f.in_step k l s.1 honest
  ]

  saved_same : (k : ℕ) (l : Link) (c : Stored) → after k ≡ Some l → IsHonest hostile l.inc → l.saved ≡ Some c
      → HasSaved c (acts l.inc l.act)
  saved_same k l c e honest g = elim (find_link k l e) [
    | inl s ↦ absurd (let z : None ≡ Some c = ap (λ (x : Link). x.saved) (sym s.1) ∙ g in cc)
    | inr s ↦ f.saved_same k l c s.1 honest g
  ]

  linked : (inc act : ℕ) → IsLinked links inc act → IsLinked after inc act
  linked inc act g = elim (eqb_tells g.0 o) [
    | inl s ↦ absurd (let z : None ≡ Some g.1 = sym h.was ∙ (ap links (sym s.1) ∙ g.2) in cc)
    | inr s ↦ (g.0, g.1, h.others g.0 s.1 ∙ g.2, g.3, g.4)
  ]

  ends_back : NoMoreEnds links after sent (sent ++ more)
  ends_back inc act n k s (called g) = elim (among_join sent more (Call inc act n (SaveCompleted k s)) g) [
    | inl old ↦ called old
    | inr new ↦ absurd (let q = is_new (Call inc act n (SaveCompleted k s)) new in h.quiet k s (cc))
  ]
  ends_back inc act n k s (waits x l i e ei ea at en) = elim (find_link x l e) [
    | inl z ↦ absurd (let y : None ≡ Some (SaveCompleted k s) = ap (λ (v : Link). slice_get v.waiting i) (sym z.1)
        ∙ at in cc)
    | inr z ↦ waits x l i z.1 ei ea at en
  ]

  no_reply : (inc act n : ℕ) (r : Answer) → Among more (Reply inc act n r) → ⊥
  no_reply inc act n r g = (let q = is_new (Reply inc act n r) g in cc)

  pub begun : Facts hostile after acts lives (sent ++ more) (owners ++ extra) (last + 1) counted served
  begun = record {
    drawn = record {
      many = many;
      acts_drawn = λ inc act a e. (let le : act ≤ last = f.drawn.acts_drawn inc act a e in omega arith);
      acts_called = f.drawn.acts_called;
      calls_drawn = λ inc act n op g. elim (among_join sent more (Call inc act n op) g) [
        | inl old ↦ (let le : act ≤ last = f.drawn.calls_drawn inc act n op old in omega arith)
        | inr new ↦ (let q = is_new (Call inc act n op) new in let ea : act ≡ last + 1 = cc in omega arith)
      ];
      calls_named = named;
      servers_told = told;
      calls_told = λ inc act n op g. elim (among_join sent more (Call inc act n op) g) [
        | inl old ↦ f.drawn.calls_told inc act n op old
        | inr new ↦ (let q = is_new (Call inc act n op) new in let ei : inc ≡ h.inc = cc in
            (h.hosted.0, ap lives ei ∙ h.hosted.1))
      ];
    };
    calls = record { bounded = bounded; pending = pending };
    in_step = in_step;
    one_ahead = ahead_sent hostile after acts sent more in_step
        (λ inc act n op g. (let q = is_new (Call inc act n op) g in (o, link, h.is, (cc), (cc), (cc)))) f.one_ahead;
    unlinked = record {
      called = λ inc act n op honest lv g. elim (among_join sent more (Call inc act n op) g) [
        | inl old ↦ elim (f.unlinked.called inc act n op honest lv old) [
          | inl x ↦ inl (linked inc act x)
          | inr x ↦
              inr x
        ]
        | inr new ↦ (let q = is_new (Call inc act n op) new in let ei : inc ≡ h.inc = cc in
            let ea : act ≡ last + 1 = cc in inl (o, link, h.is, sym ei, sym ea))
      ];
      known = λ inc act a honest lv g. elim (f.unlinked.known inc act a honest lv g) [
        | inl x ↦
            inl (linked inc act x)
        | inr x ↦ inr x
      ];
    };
    replies = only_calls acts sent more no_reply f.replies;
    saved_same = saved_same;
    counts = counts_owned after acts (sent ++ more) owners extra counted served
        (counts_kept links after acts sent (sent ++ more) owners counted served ends_back
        (λ m g. among_old sent more m g) f.counts);
  }
