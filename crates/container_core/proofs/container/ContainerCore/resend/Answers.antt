use Rattle.std.proofs.Common.{◌≤◌, ℕ, List, length, sym, ◌∙◌, ap, subst}
use Rattle.container_model.specs.declared.record.Object.{Object}
use Rattle.container_model.specs.Record.{Record}
use Rattle.container_model.specs.Replies.{pending_calls}
use Rattle.container_core.proofs.FewCalls.{few_calls, sends_few, single_calls}
use Rattle.container_core.proofs.container.ContainerCore.resend.Goals as goal

pub returns-clause-few : goal.returns-clause-few
returns-clause-few c =
    let r : Record = c.self.inside.state in
    let few = subst (λ (os : List Object). length (pending_calls os) ≤ 512) (sym c.objects.ensures)
    (few_calls r c.self.invariant.0 c.self.invariant.2) in
    sends_few (λ v. v.items) c.pending_calls.result (pending_calls c.objects.result.now) 512 few c.pending_calls.ensures

pub returns-clause-single : goal.returns-clause-single
returns-clause-single c =
    let objects = ap (λ (os : List Object). length os)
    (c.objects.ensures ∙ ap (λ (x : Record). x.objects) c.self.view_is) in
    let few = subst (λ (n : ℕ). length (pending_calls c.objects.result.now) ≤ n) objects
    (single_calls c.objects.result.now) in
    sends_few (λ v. v.items) c.pending_calls.result (pending_calls c.objects.result.now)
    (length c.args.self.now.objects) few c.pending_calls.ensures
