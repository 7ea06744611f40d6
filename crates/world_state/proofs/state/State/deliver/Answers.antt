use Rattle.std.proofs.Common.{◌≡◌, ◌∙◌, ap, sym, subst}
use Rattle.std.specs.Prelude.{IfErr, OnOk, Ok, Result, Some}
use Rattle.message_values.specs.Found.{nth}
use Rattle.message_values.specs.declared.message.Message.{Message}
use Rattle.container_model.specs.Numbered.{IsNth}
use Rattle.world_model.specs.declared.event.Stop.{Stop}
use Rattle.world_model.specs.declared.logs.Sent.{Sent}
use Rattle.world_model.specs.World.{World, StopsFor, limited}
use Rattle.world_state.specs.Plans.{carry}
use Rattle.world_state.specs.View.{seen}
use Rattle.world_state.proofs.Delivering.{deliver_is, same_at}
use Rattle.world_state.proofs.Serving.{stands}
use Rattle.world_state.proofs.state.State.deliver.Goals as goal

pub returns-clause-taken : goal.returns-clause-taken
returns-clause-taken g c =
    let w = seen (λ s. (goal.Embedded-dyn g (s.boxed.vtable, s.boxed.value)).content s.boxed.value) c.args.self.now in
    let x = c.index.result.now in
    let p : IsNth c.args.p c.args.self.now.host.sent.items c.in-Some.i =
    subst (λ xs. IsNth c.args.p xs c.in-Some.i) c.deref.ensures.value c.in-Some.ensures in
    let at : nth w.sent c.args.p ≡ Some x = p.found ∙ stands w.sent c.in-Some.i x p.fits c.index.ensures in
    let same = c.in-Ok.ensures ∙ ap (λ (y : Sent). y.message)
    (same_at _ w.sent c.in-Some.i x c.index-2.result.now (ap (λ (v : World). v.sent) c.open.ensures.kept) p.fits
    c.index.ensures c.index-2.ensures) in
    let carried = ap (λ (v : World). carry (record v { instances = w.instances; stock = w.stock }) c.args.p
    c.in-Ok.message c.in_ok-plan.plan) c.open.ensures.kept
    ∙ ap (λ (m : Message). carry w c.args.p m c.in_ok-plan.plan) same in
    subst (λ (t : Result World Stop). OnOk c.carry_out.result
    (t ≡ Ok (seen (λ s. (goal.Embedded-dyn g (s.boxed.vtable, s.boxed.value)).content s.boxed.value)
    c.carry_out.new.self)))
    (carried
    ∙ sym (ap (limited w) (deliver_is w c.args.p x c.in_ok-plan.plan at c.in_ok-plan.ensures.planned.0)))
    c.carry_out.ensures.taken

pub returns-clause-refused : goal.returns-clause-refused
returns-clause-refused g c =
    let w = seen (λ s. (goal.Embedded-dyn g (s.boxed.vtable, s.boxed.value)).content s.boxed.value) c.args.self.now in
    let x = c.index.result.now in
    let p : IsNth c.args.p c.args.self.now.host.sent.items c.in-Some.i =
    subst (λ xs. IsNth c.args.p xs c.in-Some.i) c.deref.ensures.value c.in-Some.ensures in
    let at : nth w.sent c.args.p ≡ Some x = p.found ∙ stands w.sent c.in-Some.i x p.fits c.index.ensures in
    let same = c.in-Ok.ensures ∙ ap (λ (y : Sent). y.message)
    (same_at _ w.sent c.in-Some.i x c.index-2.result.now (ap (λ (v : World). v.sent) c.open.ensures.kept) p.fits
    c.index.ensures c.index-2.ensures) in
    let carried = ap (λ (v : World). carry (record v { instances = w.instances; stock = w.stock }) c.args.p
    c.in-Ok.message c.in_ok-plan.plan) c.open.ensures.kept
    ∙ ap (λ (m : Message). carry w c.args.p m c.in_ok-plan.plan) same in
    subst (λ (t : Result World Stop). IfErr c.carry_out.result (StopsFor t))
    (carried
    ∙ sym (ap (limited w) (deliver_is w c.args.p x c.in_ok-plan.plan at c.in_ok-plan.ensures.planned.0)))
    c.carry_out.ensures.refused
