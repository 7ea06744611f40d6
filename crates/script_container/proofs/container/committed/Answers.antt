use Rattle.std.proofs.Common.{refl, ◌∙◌, ap}
use Rattle.container_model.specs.Saves.{commit_done, counted_of}
use Rattle.script_model.specs.declared.step.Step.TheVariants as step
use Rattle.script_container.proofs.Done.{commit_done_by, commit_leaves}
use Rattle.script_container.proofs.Given.{step_told}
use Rattle.script_container.specs.Servers.{servers, turned}
use Rattle.script_container.proofs.container.committed.Goals as goal

pub returns-clause-told : goal.returns-clause-told
returns-clause-told g c =
    step_told (step.Committed c.args.frame) (λ r. commit_done r c.args.frame)
    (λ a. record {
      rec = c.commit_done-told.new.self;
      answer = a;
      counted = counted_of c.args.core.now c.args.frame;
    }) c.commit_done-told.result _ _ _ _ _ (λ g. refl)
    (c.requires.saved, λ m. tt) tt (λ a. refl) c.note.ensures c.noted.ensures.noted
    c.commit_done-told.ensures.taken c.commit_done-told.ensures.refused c.commit_done-told.ensures.kept
    c.requires.told

pub returns-clause-others : goal.returns-clause-others
returns-clause-others g c = commit_leaves c.args.core.now c.args.frame c.commit_done-told.new.self
    (counted_of c.args.core.now c.args.frame) c.commit_done-told.result c.commit_done-told.ensures.taken
    c.commit_done-told.ensures.kept

pub returns-clause-done : goal.returns-clause-done
returns-clause-done g c =
    commit_done_by c.args.core.now c.args.frame c.commit_done-told.new.self c.heard.result
    (counted_of c.args.core.now c.args.frame) c.commit_done-told.result c.noted.result c.noted.ensures.same
    c.heard.ensures.known
    c.commit_done-told.ensures.taken c.commit_done-told.ensures.refused c.commit_done-told.ensures.kept

pub returns-clause-serving : goal.returns-clause-serving
unfolding servers turned
returns-clause-serving g c = c.noted.ensures.serving ∙ ap servers c.note.ensures
