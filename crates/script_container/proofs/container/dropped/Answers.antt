use Rattle.std.proofs.Common.{false, refl, [], ◌∙◌, ap}
use Rattle.container_model.specs.Saves.{resolve}
use Rattle.script_model.specs.declared.step.Step.TheVariants as step
use Rattle.script_container.proofs.Done.{drop_done_by, drop_leaves}
use Rattle.script_container.proofs.Given.{step_told}
use Rattle.script_container.specs.Servers.{servers, turned}
use Rattle.script_container.proofs.container.dropped.Goals as goal

pub returns-clause-told : goal.returns-clause-told
returns-clause-told g c =
    step_told (step.Resolved c.args.frame false) (λ r. resolve r c.args.frame false)
    (λ a. record { rec = c.resolve-told.new.self; answer = a; counted = [] }) c.resolve-told.result _ _ _ _ _
    (λ g. refl) (tt, λ m. tt) tt (λ a. refl) c.note.ensures c.noted.ensures.noted c.resolve-told.ensures.taken
    c.resolve-told.ensures.refused c.resolve-told.ensures.kept c.requires

pub returns-clause-others : goal.returns-clause-others
returns-clause-others g c = drop_leaves c.args.core.now c.args.frame c.resolve-told.new.self []
    c.resolve-told.result c.resolve-told.ensures.taken c.resolve-told.ensures.kept

pub returns-clause-done : goal.returns-clause-done
returns-clause-done g c =
    drop_done_by c.args.core.now c.args.frame c.resolve-told.new.self c.heard.result [] c.resolve-told.result
    c.noted.result c.noted.ensures.same c.heard.ensures.known
    c.resolve-told.ensures.taken c.resolve-told.ensures.refused c.resolve-told.ensures.kept

pub returns-clause-serving : goal.returns-clause-serving
unfolding servers turned
returns-clause-serving g c = c.noted.ensures.serving ∙ ap servers c.note.ensures
