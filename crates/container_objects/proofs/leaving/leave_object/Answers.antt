use Rattle.std.proofs.Common.{◌∙◌, ap, sym}
use Rattle.std.proofs.lemmas.Option.{same_Some}
use Rattle.container_model.specs.Verbs.{leaving_made}
use Rattle.container_objects.proofs.VerbsMade.{left_made}
use Rattle.container_objects.proofs.leaving.leave_object.Goals as goal

pub returns-clause-taken : goal.returns-clause-taken
returns-clause-taken c r l at linked =
    ap (λ m. leaving_made r c.args.frame.now c.args.object.now m c.args.steps.now)
    (same_Some l c.in-Some.link (sym linked ∙ c.in-Some.is))
    ∙ left_made r c.args.frame.now c.leave.new.frame c.args.object.now c.in-Some.link c.leave.new.link
    c.args.steps.now c.in_ok-actions.actions at c.in_ok-actions.ensures.asked c.in_ok-actions.ensures.sent
    c.in_ok-actions.ensures.left
