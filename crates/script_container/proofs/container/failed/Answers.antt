use Rattle.std.proofs.Common.{refl, ap}
use Rattle.container_model.specs.Saves.{commit_failed}
use Rattle.container_model.specs.Record.{counts_none}
use Rattle.script_model.specs.declared.step.Step.TheVariants as step
use Rattle.script_container.proofs.Done.{failure_answered, failure_leaves}
use Rattle.script_container.proofs.Given.{step_alone}
use Rattle.script_container.proofs.Noticed.{failure_noticed}
use Rattle.script_container.specs.Servers.{servers, turned}
use Rattle.script_container.proofs.container.failed.Goals as goal

pub returns-clause-told : goal.returns-clause-told
returns-clause-told g c =
    step_alone (step.Failed c.args.frame) (λ r. commit_failed r c.args.frame)
    (λ a. counts_none c.commit_failed.new.self a) c.commit_failed.result _ _ _ _ (λ g. refl)
    (c.requires.lost, λ m. tt) tt (λ a. refl) c.note.ensures c.commit_failed.ensures.memory
    c.commit_failed.ensures.taken c.commit_failed.ensures.refused c.commit_failed.ensures.kept c.requires.told

pub returns-clause-noticed : goal.returns-clause-noticed
returns-clause-noticed g c =
    failure_noticed (g.H.Host.told c.args.host.now) (g.H.Host.told c.note.new.self) (g.H.Host.told c.note.new.self)
    c.args.core.now c.args.frame c.requires.told.recorded c.note.ensures refl

pub returns-clause-others : goal.returns-clause-others
returns-clause-others g c = failure_leaves c.args.core.now c.args.frame c.commit_failed.new.self
    c.commit_failed.result c.commit_failed.ensures.taken c.commit_failed.ensures.kept

pub returns-clause-answered : goal.returns-clause-answered
returns-clause-answered g c =
    failure_answered c.args.core.now c.args.frame c.commit_failed.new.self c.commit_failed.result
    c.commit_failed.ensures.memory c.commit_failed.ensures.taken c.commit_failed.ensures.refused
    c.commit_failed.ensures.kept

pub returns-clause-serving : goal.returns-clause-serving
unfolding servers turned
returns-clause-serving g c = ap servers c.note.ensures
