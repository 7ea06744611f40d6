-- An activation wrote, or asked: each fact stays.
use Rattle.std.proofs.Common.{◌≡◌, ℕ, List, ◌++◌, inl, inr}
use Rattle.message_values.specs.declared.message.Said.{Said}
use Rattle.message_values.specs.declared.message.Said.TheVariants.{Call, Reply}
use Rattle.message_values.specs.declared.operation.Operation.{Operation}
use Rattle.message_values.specs.declared.operation.Operation.TheVariants.{SaveCompleted}
use Rattle.container_model.specs.declared.answer.Done.{Done}
use Rattle.world_model.specs.declared.logs.ServerDone.{ServerDone}
use Rattle.world_model.specs.Safe.{Among}
use Rattle.world_facts.specs.Words.{Links, Acts, Lives, called, waits}
use Rattle.world_facts.specs.Facts.{Facts}
use Rattle.world_facts.specs.Shapes.{Tells, IsOwn}
use Rattle.world_facts.proofs.Lookups.{among_join, among_old}
use Rattle.world_facts.proofs.Issuing.{NoMoreEnds, counts_kept}
use Rattle.world_facts.proofs.Sending.{only_calls}
use Rattle.world_facts.proofs.Alike.{facts_alike}

-- messages are sent that are neither calls nor replies
module _ {hostile : List ℕ} (links : Links) (acts : Acts) (lives : Lives) (sent more : List Said) (owners : List ℕ)
    (last : ℕ) (counted : List Done) (served : List ServerDone)
    (own : (m : Said) → Among more m → IsOwn m)
    (f : Facts hostile links acts lives sent owners last counted served) where
  old : (inc act n : ℕ) (op : Operation) → Among (sent ++ more) (Call inc act n op) → Among sent (Call inc act n op)
  old inc act n op g = elim (among_join sent more (Call inc act n op) g) [
    | inl x ↦ x
    | inr x ↦
        absurd (own (Call inc act n op) x)
  ]

  ends_back : NoMoreEnds links links sent (sent ++ more)
  ends_back inc act n k s (called g) = called (old inc act n (SaveCompleted k s) g)
  ends_back inc act n k s (waits x l i e ei ea at en) = waits x l i e ei ea at en

  pub sent_own : Facts hostile links acts lives (sent ++ more) owners last counted served
  sent_own = record {
    drawn = record {
      many = f.drawn.many;
      acts_drawn = f.drawn.acts_drawn;
      acts_called = f.drawn.acts_called;
      calls_drawn = λ inc act n op g. f.drawn.calls_drawn inc act n op (old inc act n op g);
      calls_named = f.drawn.calls_named;
      servers_told = f.drawn.servers_told;
      calls_told = λ inc act n op g. f.drawn.calls_told inc act n op (old inc act n op g);
    };
    calls = record {
      bounded = λ o inc n op l e g. f.calls.bounded o inc n op l e (old inc l.act n op g);
      pending = λ o inc op asked l e p g. f.calls.pending o inc op asked l e p (old inc l.act l.last op g);
    };
    in_step = f.in_step;
    one_ahead = λ inc act n op honest g. f.one_ahead inc act n op honest (old inc act n op g);
    unlinked = record {
      called = λ inc act n op honest lv g. f.unlinked.called inc act n op honest lv
          (old inc act n op g);
      known = f.unlinked.known;
    };
    replies = only_calls acts sent more (λ inc act n r g. own (Reply inc act n r) g) f.replies;
    saved_same = f.saved_same;
    counts = counts_kept links links acts sent (sent ++ more) owners counted served ends_back
        (λ m g. among_old sent more m g) f.counts;
  }

-- and the activation is as it was, but for the number of its last content
pub told_all : {hostile : List ℕ} (links : Links) (acts after : Acts) (lives now : Lives) (sent more : List Said)
    (owners : List ℕ) (last : ℕ) (counted : List Done) (served : List ServerDone)
    → Tells acts after → ((inc : ℕ) → now inc ≡ lives inc) → ((m : Said) → Among more m → IsOwn m)
    → Facts hostile links acts lives sent owners last counted served
    → Facts hostile links after now (sent ++ more) owners last counted served
told_all links acts after lives now sent more owners last counted served h still own f =
    sent_own links after now sent more owners last counted served own
    (facts_alike links acts after lives now sent owners last counted served h still f)
