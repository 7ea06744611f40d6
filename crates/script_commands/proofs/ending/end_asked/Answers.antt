use Rattle.std.proofs.Common.{◌≡◌, ◌∙◌, rules}
use Rattle.std.specs.Result.{IsErrAnd}
use Rattle.script_links.proofs.Going.{ends_on}
use Rattle.script_commands.proofs.ending.end_asked.Goals as goal

pub loop-action-preserved : goal.loop-action-preserved
loop-action-preserved g c = record {
  going = c.in_ok-end_on.ensures.leaves;
  turning = c.end_on.ensures.turning ∙ c.loop-action.invariant.turning;
  holding = λ f hold. c.end_on.ensures.holding f (c.loop-action.invariant.holding f hold);
  ordered = c.end_on.ensures.ordered ∙ c.loop-action.invariant.ordered;
}

pub returns-in_err-end_on-clause-holding : goal.returns-in_err-end_on-clause-holding
returns-in_err-end_on-clause-holding g c = λ f hold. c.end_on.ensures.holding f (c.loop-action.invariant.holding f hold)

pub returns-in_err-end_on-clause-leaves : goal.returns-in_err-end_on-clause-leaves
returns-in_err-end_on-clause-leaves g c =
    let again : IsErrAnd c.from_residual.result (λ x. x ≡ c.in_err-end_on.field-0.0) = search rules in
    ends_on g.H.Disk.Disk c.from_residual.result c.in_err-end_on.field-0.0 (g.H.Host.told c.end_on.new.host)
    c.end_on.new.progress again c.in_err-end_on.ensures.leaves
