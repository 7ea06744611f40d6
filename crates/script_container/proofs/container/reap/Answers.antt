use Rattle.std.proofs.Common.{refl, ◌∙◌, ap}
use Rattle.container_model.specs.Messages.{on_reap}
use Rattle.container_model.specs.Record.{counts_none}
use Rattle.script_model.specs.declared.step.Step.TheVariants as step
use Rattle.script_container.proofs.Given.{ended_so, just_ended, step_noted}
use Rattle.script_container.specs.Servers.{servers, turned}
use Rattle.script_container.proofs.container.reap.Goals as goal

pub returns-clause-told : goal.returns-clause-told
returns-clause-told g c =
    step_noted (step.Reap c.args.inc) (λ r. on_reap r c.args.inc) (λ a. counts_none c.on_reap-told.new.self a)
    c.on_reap-told.result _ _ _ _ _ (λ g. refl) (tt, λ m. tt)
    (just_ended c.args.inc (g.H.Host.told c.args.host.now) c.args.core.now c.requires) (λ a. refl)
    c.note.ensures c.noted.ensures.noted c.on_reap-told.ensures.taken c.on_reap-told.ensures.refused
    c.on_reap-told.ensures.kept (ended_so c.args.inc (g.H.Host.told c.args.host.now) c.args.core.now c.requires)

pub returns-clause-serving : goal.returns-clause-serving
unfolding servers turned
returns-clause-serving g c = c.noted.ensures.serving ∙ ap servers c.note.ensures
