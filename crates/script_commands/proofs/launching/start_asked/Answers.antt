use Rattle.std.proofs.Common.{◌≡◌, ◌∙◌, ◌+◌, ◌<◌, ◌≤◌, ℕ, List, drop, length, ap, rules, slice_index_or, subst}
use Rattle.container_model.specs.declared.answer.Action.{Action}
use Rattle.script_model.specs.Courses.{course, starts_in}
use Rattle.script_commands.specs.Starts.{AreIn}
use Rattle.script_commands.proofs.Starting.{all_tried, starts_at}
use Rattle.std.specs.Result.{IsErrAnd}
use Rattle.script_links.proofs.Going.{ends_on}
use Rattle.script_commands.proofs.launching.start_asked.Goals as goal

pub returns-in_err-start_on-clause-holding : goal.returns-in_err-start_on-clause-holding
returns-in_err-start_on-clause-holding g c = λ f hold. c.start_on.ensures.holding f
    (c.loop-action.invariant.holding f hold)

pub loop-action-preserved : goal.loop-action-preserved
loop-action-preserved g c = record {
  going = c.in_ok-start_on.ensures.leaves;
  same = c.start_on.ensures.same ∙ c.loop-action.invariant.same;
  turning = c.start_on.ensures.turning ∙ c.loop-action.invariant.turning;
  holding = λ f hold. c.start_on.ensures.holding f (c.loop-action.invariant.holding f hold);
  ordered = c.start_on.ensures.ordered ∙ c.loop-action.invariant.ordered;
  wanted = c.in_ok-start_on.ensures.tried (starts_in (drop (c.loop-action.action-index + 1) c.args.answer.now.actions))
      (subst (λ (ts : List ℕ). AreIn (course (g.H.Host.told c.loop-action.host)).unstarted ts)
      (starts_at c.args.answer.now.actions c.loop-action.action-index c.action-item.result
      (subst (λ (xs : List Action). c.loop-action.action-index < length xs) c.as_slice-action-items.ensures
      c.loop-action-test.true)
      (c.action-item.is ∙ ap (λ (xs : List Action). slice_index_or xs c.loop-action.action-index
      c.action-item.result) c.as_slice-action-items.ensures)) c.loop-action.invariant.wanted);
}

pub returns-clause-tried : goal.returns-clause-tried
returns-clause-tried g c =
    all_tried (course (g.H.Host.told c.loop-action.host)).unstarted c.args.answer.now.actions
    c.loop-action.action-index (subst (λ (xs : List Action). length xs ≤ c.loop-action.action-index)
    c.as_slice-action-items.ensures c.loop-action-test.false) c.loop-action.invariant.wanted

pub returns-in_err-start_on-clause-leaves : goal.returns-in_err-start_on-clause-leaves
returns-in_err-start_on-clause-leaves g c =
    let again : IsErrAnd c.from_residual.result (λ x. x ≡ c.in_err-start_on.field-0.0) = search rules in
    ends_on g.H.Disk.Disk c.from_residual.result c.in_err-start_on.field-0.0 (g.H.Host.told c.start_on.new.host)
    c.start_on.new.progress again c.in_err-start_on.ensures.leaves
