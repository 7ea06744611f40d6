-- Links that are followed by links of the same activations.
use Rattle.std.proofs.Common.{◌≡◌, ℕ, List, Some, None, refl, sym, ap, ◌∙◌, inl, inr}
use Rattle.message_values.specs.declared.message.Said.{Said}
use Rattle.message_values.specs.declared.operation.Operation.{Operation}
use Rattle.container_model.specs.declared.record.Link.{Link}
use Rattle.world_facts.specs.Words.{Links, Acts, Lives}
use Rattle.world_facts.specs.Shapes.{AskedAt, none, stays, queues, sends, AsksAll, Settles, SendsNext, EndsSome}
use Rattle.world_facts.proofs.Issuing.{which}
use Rattle.world_grants.specs.Grants.{Follows}

pub same_follow : (links after : Links) → ((o : ℕ) → after o ≡ links o) → Follows links after
same_follow links after h o m e = (m, sym (h o) ∙ e, refl, refl)

pub follows_further : (links between after : Links) → Follows links between → Follows between after
    → Follows links after
follows_further links between after h k o m e =
    (let p = k o m e in let q = h o p.0 p.1 in (q.0, q.1, p.2 ∙ q.2, p.3 ∙ q.3))

pub asks_follow : (Asks : ℕ → Operation → Type 0) (links after : Links) (more : List Said)
    → AsksAll Asks links after more → Follows links after
asks_follow Asks links after more h o m e = at (h.each o)
  where
    at : AskedAt (Asks o) (links o) (after o) (h.news o) → (l : Link) × (links o ≡ Some l) × (m.inc ≡ l.inc)
        × (m.act ≡ l.act)
    at (none w i n) = (let z : None ≡ Some m = sym i ∙ e in cc)
    at (stays b l w i s wt n) = (let z : Some l ≡ Some m = sym i ∙ e in let q : l ≡ m = cc in
        (b, w, ap (λ (x : Link). x.inc) (sym q) ∙ s.inc, ap (λ (x : Link). x.act) (sym q) ∙ s.act))
    at (queues b l op p w i s pe wt ak n) = (let z : Some l ≡ Some m = sym i ∙ e in let q : l ≡ m = cc in
        (b, w, ap (λ (x : Link). x.inc) (sym q) ∙ s.inc, ap (λ (x : Link). x.act) (sym q) ∙ s.act))
    at (sends b l op w i s wb wm ak n) = (let z : Some l ≡ Some m = sym i ∙ e in let q : l ≡ m = cc in
        (b, w, ap (λ (x : Link). x.inc) (sym q) ∙ s.inc, ap (λ (x : Link). x.act) (sym q) ∙ s.act))

pub settles_follow : (hostile : List ℕ) (links after : Links) (acts : Acts) (o : ℕ)
    → Settles hostile links after acts o → Follows links after
settles_follow hostile links after acts o h n m e = elim (which links after o n h.link m h.is h.others e) [
  | inl s ↦ (h.before, ap links s.0 ∙ h.was, ap (λ (x : Link). x.inc) s.1 ∙ h.inc, ap (λ (x : Link). x.act) s.1 ∙ h.act)
  | inr s ↦ (m, s.1, refl, refl)
]

pub next_follows : (links after : Links) (o : ℕ) (more : List Said) → SendsNext links after o more → Follows links after
next_follows links after o more h n m e = elim (which links after o n h.link m h.is h.others e) [
  | inl s ↦ (
    h.before,
    ap links s.0 ∙ h.was,
    ap (λ (x : Link). x.inc) s.1
        ∙ h.called.inc,
    ap (λ (x : Link). x.act) s.1 ∙ h.called.act,
  )
  | inr s ↦ (m, s.1, refl, refl)
]

pub ends_follow : (hostile : List ℕ) (links after : Links) (acts : Acts) (lives : Lives)
    → EndsSome hostile links after acts lives → Follows links after
ends_follow hostile links after acts lives h o m e = elim (h.each o) [
  | inl s ↦ (m, sym s ∙ e, refl, refl)
  | inr g ↦ absurd (let z : None ≡ Some m = sym g.0 ∙ e in cc)
]
