use Rattle.std.proofs.Common.{◌++◌, ◌∙◌, List, ap, map}
use Rattle.message_values.specs.declared.operation.Operation.TheVariants.{HandsOff}
use Rattle.container_links.specs.Asking.{prepared}
use Rattle.container_links.specs.Handing.{calls_by}
use Rattle.container_links.specs.declared.asking.Prepared.{Prepared}
use Rattle.container_links.proofs.Handings.{called_all}
use Rattle.container_model.specs.declared.answer.Action.{Action}
use Rattle.container_model.specs.declared.record.Object.{Object}
use Rattle.container_links.proofs.handing.hand_off.Goals as goal

pub returns-clause-asked : goal.returns-clause-asked
returns-clause-asked c = λ e. c.push_calls.ensures.asked ∙ ap (λ (zs : List Action). c.args.actions.now.items ++ zs)
    (ap (λ (ps : List Prepared). calls_by ps c.as_slice.result.now) (c.as_slice-2.ensures.value ∙ e)
    ∙ (ap (λ (os : List Object). calls_by (map (prepared c.args.number HandsOff) c.args.objects.now.items) os)
    c.as_slice.ensures.value
    ∙ called_all c.args.number c.args.objects.now.items))
