use Rattle.std.proofs.Common.{sym}
use Rattle.container_objects.proofs.VerbsMade.{close_made}
use Rattle.container_objects.proofs.closes.close_one.Goals as goal

pub returns-in-Ok-clause-taken : goal.returns-in-Ok-clause-taken
returns-in-Ok-clause-taken c r n at =
    close_made r c.args.numbers c.args.frame.now c.leave.new.frame c.args.object.now c.in-Some.link c.leave.new.link
    c.args.option c.in-Some-steps.steps.now c.in-Ok.actions n at
    c.in-Some.is (sym c.if-not-has_numbers.ensures) (sym c.in-Some-steps.ensures) c.in-Ok.ensures.asked
    c.in-Ok.ensures.sent c.in-Ok.ensures.left
