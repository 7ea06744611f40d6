-- A save is counted, and activations are told of it: each fact stays.
use Rattle.std.proofs.Common.{◌≡◌, ◌⊎◌, ℕ, ◌+◌, Bool, List, ◌++◌, length, Some, sym, ap, ◌∙◌, inl, inr, subst}
use Rattle.message_values.specs.Found.{nth}
use Rattle.message_values.specs.declared.message.Said.{Said}
use Rattle.message_values.specs.declared.operation.Operation.{Operation}
use Rattle.message_values.specs.declared.operation.Operation.TheVariants.{SaveCompleted}
use Rattle.tree_streams.specs.declared.stored.Stored.{Stored}
use Rattle.server_model.specs.Server.{Activation}
use Rattle.container_model.specs.declared.record.Link.{Link}
use Rattle.container_model.specs.declared.answer.Done.{Done}
use Rattle.world_model.specs.declared.logs.ServerDone.{ServerDone}
use Rattle.world_model.specs.Safe.{Among}
use Rattle.world_facts.specs.Words.{Links, Acts, Lives, IsHonest, Issued}
use Rattle.world_facts.specs.Facts.{HasSaved, Counts, Facts}
use Rattle.world_facts.specs.Shapes.{IsTold, CountsAll}
use Rattle.world_facts.proofs.Lookups.{among_old, among_new}
use Rattle.world_facts.proofs.Asking.{IsAsked, issued_now, asked_with}

module _ {hostile : List ℕ} (links after : Links) (acts : Acts) (lives : Lives) (log more : List Said)
    (owners : List ℕ) (last : ℕ) (counted fresh : List Done) (served : List ServerDone) (k : ℕ)
    (h : CountsAll links after counted k fresh more)
    (f : Facts hostile links acts lives log owners last counted served) where
  abbrev pub Asked : ℕ → ℕ → ℕ → Operation → Type 0
  Asked inc act n op = IsAsked (IsTold links k fresh) links inc act n op

  now : (inc act n j : ℕ) (s : Bool) → Issued after (log ++ more) inc act n (SaveCompleted j s)
      → Issued links log inc act n (SaveCompleted j s) ⊎ Asked inc act n (SaveCompleted j s)
  now inc act n j s i = issued_now (IsTold links k fresh) links after acts lives log more owners last counted served
      h.tells f inc act n (SaveCompleted j s) i

  -- what is told now is of this save, and of the object that the activation was made for
  save_of : (inc act n j : ℕ) (s : Bool) → Asked inc act n (SaveCompleted j s) → j ≡ k
  save_of inc act n j s a = (let e = a.asks.1 in cc)

  object_of : (inc act n j : ℕ) (s : Bool) (a : Asked inc act n (SaveCompleted j s)) → nth owners act ≡ Some a.o
  object_of inc act n j s a = ap (nth owners) (sym a.act_is) ∙ f.drawn.calls_named a.o a.link a.was

  -- what is told now was told of no activation before
  clash : (inc act n inc' act' n' j o : ℕ) (s s' : Bool) → Issued links log inc act n (SaveCompleted j s)
      → Asked inc' act' n' (SaveCompleted j s') → nth owners act ≡ Some o → nth owners act' ≡ Some o → ⊥
  clash inc act n inc' act' n' j o s s' i a e e' =
      let c = f.counts.completed_counted inc act n j s i in
      let t = a.asks.2 a.link a.was in
      let d : Done = record { object = a.o; k = k; content = t.0 } in
      let z : Some c.0.object ≡ Some o = sym c.2 ∙ e in
      let y : Some a.o ≡ Some o = sym (object_of inc' act' n' j s' a) ∙ e' in
      let co : c.0.object ≡ o = cc in
      let ao : a.o ≡ o = cc in
      h.apart c.0 d c.1 t.2 (co ∙ sym ao) (c.3 ∙ save_of inc' act' n' j s' a)

  same_call : (inc act n inc' act' n' j o : ℕ) (s s' : Bool) → Asked inc act n (SaveCompleted j s)
      → Asked inc' act' n' (SaveCompleted j s') → nth owners act ≡ Some o → nth owners act' ≡ Some o
      → (inc ≡ inc') × (act ≡ act') × (n ≡ n')
  same_call inc act n inc' act' n' j o s s' a b e e' =
      let y : Some a.o ≡ Some o = sym (object_of inc act n j s a) ∙ e in
      let z : Some b.o ≡ Some o = sym (object_of inc' act' n' j s' b) ∙ e' in
      let ab : a.o ≡ b.o = cc in
      let w : Some a.link ≡ Some b.link = sym a.was ∙ (ap links ab ∙ b.was) in
      let l : a.link ≡ b.link = cc in (
        sym a.inc_is ∙ (ap (λ (x : Link). x.inc) l ∙ b.inc_is),
        sym a.act_is
            ∙ (ap (λ (x : Link). x.act) l ∙ b.act_is),
        a.number
            ∙ (ap (λ (x : Link). x.last + 1 + length x.waiting) l ∙ sym b.number),
      )

  -- the content that is counted is the one that the activation keeps
  content_of : (inc act n j o : ℕ) (s : Bool) (x : Activation) → Asked inc act n (SaveCompleted j s)
      → IsHonest hostile inc → acts inc act ≡ Some x → nth owners act ≡ Some o
      → (c : Stored) × (x.saved ≡ Some c) × Among fresh (record { object = o; k = j; content = c })
  content_of inc act n j o s x a honest at e =
      let t = a.asks.2 a.link a.was in
      let kept : HasSaved t.0 (acts a.link.inc a.link.act) = f.saved_same a.o a.link t.0 a.was
      (subst (IsHonest hostile) (sym a.inc_is) honest) t.1 in
      let here : HasSaved t.0 (Some x) = subst (HasSaved t.0) at
      (subst (λ y. HasSaved t.0 (acts inc y)) a.act_is
      (subst (λ y. HasSaved t.0 (acts y a.link.act)) a.inc_is kept)) in
      let y : Some a.o ≡ Some o = sym (object_of inc act n j s a) ∙ e in
      let ao : a.o ≡ o = cc in
      let jk : k ≡ j = sym (save_of inc act n j s a) in (
        t.0,
        here,
        subst (λ v. Among fresh (record { object = o; k = v; content = t.0 })) jk
            (subst (λ v. Among fresh (record { object = v; k = k; content = t.0 })) ao t.2),
      )

  counts : Counts hostile after acts (log ++ more) owners (counted ++ fresh) served
  counts = record {
    completed_counted = λ inc act n j s i. elim (now inc act n j s i) [
      | inl old ↦ (let c = f.counts.completed_counted inc act n j s old in
          (c.0, among_old counted fresh c.0 c.1, c.2, c.3))
      | inr a ↦ (let t = a.asks.2 a.link a.was in
          let d : Done = record { object = a.o; k = k; content = t.0 } in
          (d, among_new counted fresh d t.2, object_of inc act n j s a, sym (save_of inc act n j s a)))
    ];
    completed_once = λ inc act n inc' act' n' j o s s' i i' e e'. elim (now inc act n j s i) [
      | inl old ↦ elim (now inc' act' n' j s' i') [
        | inl old' ↦ f.counts.completed_once inc act n inc' act' n' j o s s' old old' e e'
        | inr b ↦ absurd (clash inc act n inc' act' n' j o s s' old b e e')
      ]
      | inr a ↦ elim (now inc' act' n' j s' i') [
        | inl old' ↦ absurd (clash inc' act' n' inc act n j o s' s old' a e' e)
        | inr b ↦ same_call inc act n inc' act' n' j o s s' a b e e'
      ]
    ];
    completed_content = λ inc act n j o s x i honest at op lt e. elim (now inc act n j s i) [
      | inl old ↦ (let c = f.counts.completed_content inc act n j o s x old honest at op lt e in
          (c.0, c.1, among_old counted fresh _ c.2))
      | inr a ↦ (let c = content_of inc act n j o s x a honest at e in (c.0, c.1, among_new counted fresh _ c.2))
    ];
    server_called = λ e g. (let c = f.counts.server_called e g in
        (c.0, c.1, c.2, c.3, among_old log more _ c.4, c.5, c.6, c.7));
    server_once = f.counts.server_once;
    server_counted = λ e g honest. among_old counted fresh _ (f.counts.server_counted e g honest);
  }

  pub all_counted : Facts hostile after acts lives (log ++ more) owners last (counted ++ fresh) served
  all_counted = asked_with (IsTold links k fresh) links after acts lives log more owners last counted served h.tells
      f (counted ++ fresh) counts
