use Rattle.std.proofs.Common.{subst}
use Rattle.container_model.specs.declared.answer.Action.{Action}
use Rattle.script_model.specs.Courses.{course, with_start}
use Rattle.script_commands.specs.Starts.{AreIn}
use Rattle.script_commands.proofs.Starting.{one_tried}
use Rattle.script_commands.proofs.launching.start_on.Goals as goal

pub returns-in-Start-clause-tried : goal.returns-in-Start-clause-tried
returns-in-Start-clause-tried g c = λ incs all.
    one_tried c.start.result c.in-Start.inc (course (g.H.Host.told c.args.host.now)).unstarted
    (course (g.H.Host.told c.start.new.host)).unstarted incs c.start.ensures.tried
    (subst (λ (a : Action). AreIn (course (g.H.Host.told c.args.host.now)).unstarted (with_start a incs))
    c.in-Start.is all)
