use Rattle.std.proofs.Common.{◌≡◌, ◌∙◌, rules}
use Rattle.std.specs.Result.{IsErrAnd}
use Rattle.script_container.proofs.Done.{carried_more, then_frames}
use Rattle.script_container.proofs.Known.{stopped_on}
use Rattle.script_container.proofs.saves.save_all.Goals as goal

pub loop-action-preserved : goal.loop-action-preserved
loop-action-preserved g c = record {
  known = c.in_ok-save_on.ensures.leaves;
  serving = c.save_on.ensures.serving ∙ c.loop-action.invariant.serving;
  ordered = c.save_on.ensures.ordered ∙ c.loop-action.invariant.ordered;
  others = then_frames c.args.core.now c.loop-action.core c.save_on.new.core c.loop-action.invariant.others
      c.in_ok-save_on.ensures.others;
  done = carried_more c.args.core.now c.loop-action.core c.save_on.new.core c.as_slice-action-items.result.now
      c.loop-action.action-index c.action-item.result c.loop-action-test.true c.action-item.is
      c.loop-action.invariant.others c.in_ok-save_on.ensures.others c.loop-action.invariant.done
      c.in_ok-save_on.ensures.done;
}

pub returns-in_err-save_on-clause-leaves : goal.returns-in_err-save_on-clause-leaves
returns-in_err-save_on-clause-leaves g c =
    let again : IsErrAnd c.from_residual.result (λ x. x ≡ c.in_err-save_on.field-0.0) = search rules in
    stopped_on g.H.Disk.Disk c.from_residual.result c.in_err-save_on.field-0.0 (g.H.Host.told c.save_on.new.host)
    c.save_on.new.core c.save_on.new.noticed again c.in_err-save_on.ensures.leaves
