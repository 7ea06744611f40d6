-- Whatever a step sends is pending once it is taken.
use Rattle.std.proofs.Common.{◌≡◌, ◌+◌, ℕ, List, [], ◌∷◌, Some, None, refl, sym, ◌∙◌, ap, inl, inr, subst}
use Rattle.message_values.specs.declared.message.Said.{Said}
use Rattle.message_values.specs.declared.message.Said.TheVariants.{Call}
use Rattle.message_values.specs.declared.operation.Operation.{Operation}
use Rattle.container_model.specs.Commands.{begun_link}
use Rattle.container_model.specs.declared.record.Link.{Link}
use Rattle.world_model.specs.Safe.{Among}
use Rattle.world_facts.specs.Words.{Links, Acts, Lives}
use Rattle.world_facts.specs.Shapes.{IsSame, AskedAt, none, stays, queues, sends, AsksAll, IsQuiet, Begins}
use Rattle.world_facts.proofs.Lookups.{among_join}
use Rattle.world_steps.specs.Steps.{IsAnswered, settled, goes_on, ended, AsksInTurn, asks_none, asks_first, IsReplied}
use Rattle.world_steps.specs.Steps.{IsReaped}
use Rattle.world_grants.specs.Numbers.{ArePending, IsPending}

pub none_pending : (links : Links) (more : List Said) → more ≡ [] → ArePending links more
none_pending links more e m g = absurd (subst (λ ms. Among ms m) e g)

one_pending : (links : Links) (o : ℕ) (l : Link) (op : Operation) (more : List Said) → links o ≡ Some l
    → l.pending ≡ Some op → more ≡ Call l.inc l.act l.last op ∷ [] → ArePending links more
one_pending links o l op more is p e m g = at (subst (λ ms. Among ms m) e g)
  where
    at : Among (Call l.inc l.act l.last op ∷ []) m → IsPending links m
    at (inl q) = record { object = o; link = l; operation = op; linked = is; pending = p; call = q }
    at (inr z) = absurd z

-- operations that are asked
pub asks_pending : (Asks : ℕ → Operation → Type 0) (links after : Links) (more : List Said)
    → AsksAll Asks links after more → ArePending after more
asks_pending Asks links after more h m g = (let p = h.from m g in at p.0 (h.each p.0) p.1)
  where
    at : (o : ℕ) → AskedAt (Asks o) (links o) (after o) (h.news o) → Among (h.news o) m → IsPending after m
    at o (none w i n) a = absurd (subst (λ xs. Among xs m) n a)
    at o (stays b l w i s wt n) a = absurd (subst (λ xs. Among xs m) n a)
    at o (queues b l op p w i s pe wt ak n) a = absurd (subst (λ xs. Among xs m) n a)
    at o (sends b l op w i c wb wm ak n) a = one_pending after o l op (h.news o) i c.pending n m a

-- what is pending stays so
same_pending : (after : Links) (o : ℕ) (b l : Link) (op : Operation) (m : Said) → after o ≡ Some l → IsSame b l
    → b.pending ≡ Some op → m ≡ Call b.inc b.act b.last op → IsPending after m
same_pending after o b l op m is s p e = record {
  object = o;
  link = l;
  operation = op;
  linked = is;
  pending = s.pending ∙ p;
  call = e ∙ (ap (λ n. Call n b.act b.last op) (sym s.inc)
      ∙ (ap (λ n. Call l.inc n b.last op) (sym s.act) ∙ ap (λ n. Call l.inc l.act n op) (sym s.last)));
}

asks_keep : (Asks : ℕ → Operation → Type 0) (links after : Links) (more : List Said) (m : Said)
    → AsksAll Asks links after more → IsPending links m → IsPending after m
asks_keep Asks links after more m h p = at (h.each p.object)
  where
    own : (b : Link) → links p.object ≡ Some b → b ≡ p.link
    own b e = (let z : Some b ≡ Some p.link = sym e ∙ p.linked in cc)

    same : (b l : Link) → links p.object ≡ Some b → after p.object ≡ Some l → IsSame b l → IsPending after m
    same b l w i s = (let is = own b w in
        same_pending after p.object b l p.operation m i s (ap (λ (x : Link). x.pending) is ∙ p.pending)
        (p.call ∙ ap (λ (x : Link). Call x.inc x.act x.last p.operation) (sym is)))

    at : AskedAt (Asks p.object) (links p.object) (after p.object) (h.news p.object) → IsPending after m
    at (none w i n) = absurd (let z : None ≡ Some p.link = sym w ∙ p.linked in cc)
    at (stays b l w i s wt n) = same b l w i s
    at (queues b l op q w i s pe wt ak n) = same b l w i s
    at (sends b l op w i c wb wm ak n) =
        absurd (let z : None ≡ Some p.operation = sym c.free
        ∙ (ap (λ (x : Link). x.pending) (own b w) ∙ p.pending) in cc)

-- in turn
turned_keeps : (links after : Links) (more : List Said) (m : Said) → AsksInTurn links after more → IsPending links m
    → IsPending after m
turned_keeps _ _ _ m (asks_none links after more same e) p =
    record {
      object = p.object;
      link = p.link;
      operation = p.operation;
      linked = same p.object ∙ p.linked;
      pending = p.pending;
      call = p.call;
    }
turned_keeps _ _ _ m (asks_first links between after first rest more h t e) p =
    turned_keeps between after rest m t (asks_keep (λ o op. IsQuiet op) links between first m h p)

pub turned_pending : (links after : Links) (more : List Said) → AsksInTurn links after more → ArePending after more
turned_pending _ _ _ (asks_none links after more same e) = none_pending after more e
turned_pending _ _ _ (asks_first links between after first rest more h t e) =
    λ m g. elim (among_join first rest m (subst (λ ms. Among ms m) e g)) [
      | inl a ↦ turned_keeps between after rest m t (asks_pending (λ o op. IsQuiet op) links between first h m a)
      | inr a ↦ turned_pending between after rest t m a
    ]

-- an answer is taken, and what waits is sent
answered_pending : (hostile : List ℕ) (links after : Links) (acts : Acts) (lives : Lives) (more : List Said)
    → IsAnswered hostile links after acts lives more → ArePending after more
answered_pending hostile links after acts lives more (settled o s e) = none_pending after more e
answered_pending hostile links after acts lives more (goes_on o between s n) =
    one_pending after o n.link n.op more n.is n.called.pending n.sends
answered_pending hostile links after acts lives more (ended s e) = none_pending after more e

pub replied_pending : (hostile : List ℕ) (links after : Links) (acts : Acts) (lives : Lives) (more : List Said)
    → IsReplied hostile links after acts lives more → ArePending after more
replied_pending hostile links after acts lives more h =
    λ m g. elim (among_join h.first h.rest m (subst (λ ms. Among ms m) h.joined g)) [
      | inl a ↦ turned_keeps h.between after h.rest m h.asked
          (answered_pending hostile links h.between acts lives h.first h.answered m a)
      | inr a ↦ turned_pending h.between after h.rest h.asked m a
    ]

-- a server ends
pub reaped_pending : (hostile : List ℕ) (links after : Links) (acts : Acts) (lives : Lives) (more : List Said)
    → IsReaped hostile links after acts lives more → ArePending after more
reaped_pending hostile links after acts lives more h = turned_pending h.between after more h.asked

-- an activation begins
pub begins_pending : (links after : Links) (lives : Lives) (owners : List ℕ) (last o : ℕ) (more : List Said)
    → Begins links after lives owners last o more → ArePending after more
begins_pending links after lives owners last o more h =
    one_pending after o (begun_link h.session h.inc (last + 1) h.op) h.op more h.is refl h.sends
