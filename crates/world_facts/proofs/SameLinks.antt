-- A link whose activation, calls and states are as they were: what is in step with it stays so.
use Rattle.std.proofs.Common.{◌≡◌, Option, sym, ◌∙◌, subst}
use Rattle.message_values.specs.declared.operation.Operation.{Operation}
use Rattle.message_values.specs.declared.answer.Answer.{Answer}
use Rattle.server_model.specs.Server.{Activation}
use Rattle.container_model.specs.declared.record.Link.{Link}
use Rattle.world_facts.specs.Facts.{InStep, not_begun, level, behind, ahead, IsEven, Did}
use Rattle.world_facts.specs.Shapes.{IsSame}

even_same : (b l : Link) → IsSame b l → (a : Activation) → IsEven b.states b.s a → IsEven l.states l.s a
even_same b l e a v = record { opened = v.opened; states = v.states ∙ sym e.states; grant = v.grant ∙ sym e.s }

did_same : (b l : Link) → l.states ≡ b.states → l.s ≡ b.s → (op : Operation) (a : Activation) (r : Answer)
    → Did b.states b.s op a r → Did l.states l.s op a r
did_same b l ev es op a r d = subst (λ v. Did v l.s op a r) (sym ev) (subst (λ s. Did b.states s op a r) (sym es) d)

pub is_same_step : (b l : Link) → IsSame b l → (x : Option Activation) → InStep b x → InStep l x
is_same_step b l e _ (not_begun op one v s p) = not_begun op (e.last ∙ one) (e.states ∙ v) (e.s ∙ s) (e.pending ∙ p)
is_same_step b l e _ (level a p n v) = level a (e.pending ∙ p) (n ∙ sym e.last) (even_same b l e a v)
is_same_step b l e _ (behind a op p n v) = behind a op (e.pending ∙ p) (n ∙ sym e.last) (even_same b l e a v)
is_same_step b l e _ (ahead a op p n d) = ahead a op (e.pending ∙ p) (n ∙ sym e.last)
    (did_same b l e.states e.s op a a.reply d)
