-- What the counts of saves need of a change: which ends of saves are issued after it.
use Rattle.std.proofs.Common.{◌≡◌, ◌≢◌, ◌⊎◌, ℕ, Bool, List, [], ◌∷◌, ◌++◌, Option, Some, None, refl, sym, ap, ◌∙◌, inl}
use Rattle.std.proofs.Common.{inr}
use Rattle.std.proofs.lemmas.Bool.Decides.{eqb_tells}
use Rattle.message_values.specs.declared.message.Said.{Said}
use Rattle.message_values.specs.declared.message.Said.TheVariants.{Call}
use Rattle.message_values.specs.declared.operation.Operation.TheVariants.{SaveCompleted}
use Rattle.container_model.specs.declared.record.Link.{Link}
use Rattle.server_model.specs.declared.counted.Counted.{Counted}
use Rattle.container_model.specs.declared.answer.Done.{Done}
use Rattle.world_model.specs.declared.logs.ServerDone.{ServerDone}
use Rattle.world_model.specs.Safe.{Among, IsOther, ServedOnce}
use Rattle.world_facts.specs.Words.{Links, Acts, IsLinked, Issued}
use Rattle.world_facts.specs.Facts.{Counts}
use Rattle.world_facts.specs.Shapes.{entries_of}
use Rattle.world_facts.proofs.Lookups.{among_join}

-- the ends of saves that are issued after a change were issued before
abbrev pub NoMoreEnds : Links → Links → List Said → List Said → Type 0
NoMoreEnds links after sent more = (inc act n k : ℕ) (storage : Bool)
    → Issued after more inc act n (SaveCompleted k storage) → Issued links sent inc act n (SaveCompleted k storage)

pub counts_kept : {hostile : List ℕ} (links after : Links) (acts : Acts) (sent more : List Said) (owners : List ℕ)
    (counted : List Done) (served : List ServerDone)
    → NoMoreEnds links after sent more → ((m : Said) → Among sent m → Among more m)
    → Counts hostile links acts sent owners counted served
    → Counts hostile after acts more owners counted served
counts_kept links after acts sent more owners counted served back forth h = record {
  completed_counted = λ inc act n k s i. h.completed_counted inc act n k s (back inc act n k s i);
  completed_once = λ inc act n inc' act' n' k o s s' i j. h.completed_once inc act n inc' act' n' k o s s'
      (back inc act n k s i) (back inc' act' n' k s' j);
  completed_content = λ inc act n k o s a i. h.completed_content inc act n k o s a (back inc act n k s i);
  server_called = λ e g. (let c = h.server_called e g in
      (c.0, c.1, c.2, c.3, forth (Call e.inc c.0 c.1 (SaveCompleted e.k c.2)) c.4, c.5, c.6, c.7));
  server_once = h.server_once;
  server_counted = h.server_counted;
}

-- the object of a link after a change at one object alone
pub which : (links after : Links) (o k : ℕ) (link l : Link) → after o ≡ Some link
    → ((n : ℕ) → n ≢ o → after n ≡ links n) → after k ≡ Some l → ((k ≡ o) × (l ≡ link))
    ⊎ ((k ≢ o) × (links k ≡ Some l))
which links after o k link l is others e = elim (eqb_tells k o) [
  | inl s ↦ inl (s.1, (let z : Some l ≡ Some link = sym e ∙ (ap after s.1 ∙ is) in cc))
  | inr s ↦ inr (s.1, sym (others k s.1) ∙ e)
]

-- a link stays linked where one object keeps its activation and all others are as they were
pub linked_kept : (links after : Links) (o inc act : ℕ) (before link : Link) → links o ≡ Some before
    → after o ≡ Some link → ((n : ℕ) → n ≢ o → after n ≡ links n) → link.inc ≡ before.inc → link.act ≡ before.act
    → IsLinked links inc act → IsLinked after inc act
linked_kept links after o inc act before link was is others ei ea h = elim (eqb_tells h.0 o) [
  | inl s ↦ (let z : Some h.1 ≡ Some before = sym h.2 ∙ (ap links s.1 ∙ was) in let q : h.1 ≡ before = cc in
      (o, link, is, ei ∙ (ap (λ (x : Link). x.inc) (sym q) ∙ h.3), ea ∙ (ap (λ (x : Link). x.act) (sym q) ∙ h.4)))
  | inr s ↦ (h.0, h.1, others h.0 s.1 ∙ h.2, h.3, h.4)
]

pub once_join : (xs ys : List ServerDone) → ServedOnce xs → ServedOnce ys
    → ((d e : ServerDone) → Among xs d → Among ys e → IsOther d e) → ServedOnce (xs ++ ys)
once_join [] ys p q h = q
once_join (x ∷ xs) ys p q h = (
  (λ e g. elim (among_join xs ys e g) [ inl old ↦ p.0 e old | inr new ↦ h x e (inl refl) new ]),
  once_join xs ys p.1 q (λ d e g. h d e (inr g)),
)

pub once_entries : (inc act : ℕ) (owners : List ℕ) (v : Option Counted) → ServedOnce (entries_of inc act owners v)
once_entries inc act owners None = tt
once_entries inc act owners (Some v) = ((λ e h. absurd h), tt)

-- this activation, or another
pub same_act : (i x inc act : ℕ) → ((i ≡ inc) × (x ≡ act)) ⊎ (i ≡ inc → x ≡ act → ⊥)
same_act i x inc act = elim (eqb_tells i inc) [
  | inl p ↦ elim (eqb_tells x act) [ inl q ↦ inl (p.1, q.1) | inr q ↦ inr (λ e f. q.1 f) ]
  | inr p ↦ inr (λ e f. p.1 e)
]
