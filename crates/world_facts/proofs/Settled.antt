-- The pending operation of one object was answered: each fact stays.
use Rattle.std.proofs.Common.{◌≡◌, ◌≢◌, ◌⊎◌, ℕ, ◌+◌, ◌≤◌, List, Some, None, sym, ap, ◌∙◌, inl, inr, arith, subst}
use Rattle.std.proofs.Common.{slice_get}
use Rattle.message_values.specs.Found.{nth}
use Rattle.message_values.specs.declared.message.Said.{Said}
use Rattle.message_values.specs.declared.message.Said.TheVariants.{Call}
use Rattle.message_values.specs.declared.operation.Operation.{Operation}
use Rattle.tree_streams.specs.declared.stored.Stored.{Stored}
use Rattle.container_model.specs.declared.record.Link.{Link}
use Rattle.world_model.specs.declared.life.Life.{Life}
use Rattle.container_model.specs.declared.answer.Done.{Done}
use Rattle.world_model.specs.declared.logs.ServerDone.{ServerDone}
use Rattle.world_model.specs.Safe.{Among}
use Rattle.world_facts.specs.Words.{Links, Acts, Lives, IsHonest, IsLinked, called, waits}
use Rattle.world_facts.specs.Facts.{InStep, HasSaved, Facts}
use Rattle.world_facts.specs.Shapes.{Settles}
use Rattle.world_facts.proofs.Issuing.{NoMoreEnds, counts_kept, which, linked_kept}

module _ {hostile : List ℕ} (links after : Links) (acts : Acts) (lives : Lives) (sent : List Said) (owners : List ℕ)
    (last : ℕ) (counted : List Done) (served : List ServerDone) (o : ℕ)
    (h : Settles hostile links after acts o) (f : Facts hostile links acts lives sent owners last counted served) where
  find_link : (k : ℕ) (l : Link) → after k ≡ Some l → ((k ≡ o) × (l ≡ h.link)) ⊎ ((k ≢ o) × (links k ≡ Some l))
  find_link k l e = which links after o k h.link l h.is h.others e

  named : (k : ℕ) (l : Link) → after k ≡ Some l → nth owners l.act ≡ Some k
  named k l e = elim (find_link k l e) [
    | inl s ↦ ap (nth owners) (ap (λ (x : Link). x.act) s.1 ∙ h.act)
        ∙ (f.drawn.calls_named o h.before h.was ∙ ap Some (sym s.0))
    | inr s ↦ f.drawn.calls_named k l s.1
  ]

  told : (k : ℕ) (l : Link) → after k ≡ Some l → (life : Life) × (lives l.inc ≡ Some life)
  told k l e = elim (find_link k l e) [
    | inl s ↦ (let t = f.drawn.servers_told o h.before h.was in
        (t.0, ap lives (ap (λ (x : Link). x.inc) s.1 ∙ h.inc) ∙ t.1))
    | inr s ↦ f.drawn.servers_told k l s.1
  ]

  bounded : (k inc n : ℕ) (op : Operation) (l : Link) → after k ≡ Some l → Among sent (Call inc l.act n op)
      → (inc ≡ l.inc) × (n ≤ l.last)
  bounded k inc n op l e g = elim (find_link k l e) [
    | inl s ↦ (let q = f.calls.bounded o inc n op h.before h.was
        (subst (λ x. Among sent (Call inc x n op)) (ap (λ (x : Link). x.act) s.1 ∙ h.act) g) in
        let le : n ≤ h.before.last = q.1 in
        let el : l.last ≡ h.before.last = ap (λ (x : Link). x.last) s.1 ∙ h.last in
        (q.0 ∙ sym (ap (λ (x : Link). x.inc) s.1 ∙ h.inc), omega arith))
    | inr s ↦ f.calls.bounded k inc n op l s.1 g
  ]

  pending : (k inc : ℕ) (op asked : Operation) (l : Link) → after k ≡ Some l → l.pending ≡ Some asked
      → Among sent (Call inc l.act l.last op) → op ≡ asked
  pending k inc op asked l e p g = elim (find_link k l e) [
    | inl s ↦ absurd (let z : None ≡ Some asked = sym h.pending ∙ (ap (λ (x : Link). x.pending) (sym s.1) ∙ p) in cc)
    | inr s ↦ f.calls.pending k inc op asked l s.1 p g
  ]

  in_step : (k : ℕ) (l : Link) → after k ≡ Some l → IsHonest hostile l.inc → InStep l (acts l.inc l.act)
  in_step k l e honest = elim (find_link k l e) [
    | inl s ↦ subst (λ (x : Link). InStep x (acts x.inc x.act)) (sym s.1)
        (h.in_step (subst (λ (x : Link). IsHonest hostile x.inc) s.1 honest))
    | inr s ↦ f.in_step k l s.1 honest
  ]

  saved_same : (k : ℕ) (l : Link) (c : Stored) → after k ≡ Some l → IsHonest hostile l.inc → l.saved ≡ Some c
      → HasSaved c (acts l.inc l.act)
  saved_same k l c e honest g = elim (find_link k l e) [
    | inl s ↦ subst (λ (x : Link). HasSaved c (acts x.inc x.act)) (sym s.1)
        (h.saved (subst (λ (x : Link). IsHonest hostile x.inc) s.1 honest) c
        (ap (λ (x : Link). x.saved) (sym s.1) ∙ g))
    | inr s ↦ f.saved_same k l c s.1 honest g
  ]

  linked : (inc act : ℕ) → IsLinked links inc act → IsLinked after inc act
  linked inc act g = linked_kept links after o inc act h.before h.link h.was h.is h.others h.inc h.act g

  ends_back : NoMoreEnds links after sent sent
  ends_back inc act n k s (called g) = called g
  ends_back inc act n k s (waits x l i e ei ea at en) = elim (find_link x l e) [
    | inl z ↦ waits o h.before i h.was (sym h.inc ∙ (ap (λ (y : Link). y.inc) (sym z.1) ∙ ei))
        (sym h.act ∙ (ap (λ (y : Link). y.act) (sym z.1) ∙ ea))
        (ap (λ y. slice_get y i) (sym h.waiting ∙ ap (λ (y : Link). y.waiting) (sym z.1)) ∙ at)
        (en ∙ ap (λ y. y + 1 + i) (ap (λ (y : Link). y.last) z.1 ∙ h.last))
    | inr z ↦ waits x l i z.1 ei ea at en
  ]

  pub settled : Facts hostile after acts lives sent owners last counted served
  settled = record {
    drawn = record {
      many = f.drawn.many;
      acts_drawn = f.drawn.acts_drawn;
      acts_called = f.drawn.acts_called;
      calls_drawn = f.drawn.calls_drawn;
      calls_named = named;
      servers_told = told;
      calls_told = f.drawn.calls_told;
    };
    calls = record { bounded = bounded; pending = pending };
    in_step = in_step;
    one_ahead = f.one_ahead;
    unlinked = record {
      called = λ inc act n op honest lv g. elim (f.unlinked.called inc act n op honest lv g) [
        | inl x ↦
            inl (linked inc act x)
        | inr x ↦ inr x
      ];
      known = λ inc act a honest lv g. elim (f.unlinked.known inc act a honest lv g) [
        | inl x ↦
            inl (linked inc act x)
        | inr x ↦ inr x
      ];
    };
    replies = f.replies;
    saved_same = saved_same;
    counts = counts_kept links after acts sent sent owners counted served ends_back (λ m g. g) f.counts;
  }
