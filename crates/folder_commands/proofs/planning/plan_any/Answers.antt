use Rattle.std.proofs.Common.{◌∙◌, sym}
use Rattle.folder_commands.proofs.Picked.{planned_all}
use Rattle.folder_commands.proofs.planning.plan_any.Goals as goal

pub returns-then-is_empty : goal.returns-then-is_empty
returns-then-is_empty c =
    planned_all c.args.paths.now c.args.outline.now c.plan_chosen.result c.in_ok-new.field-0
    (sym c.is_empty.ensures ∙ c.if-is_empty.true) c.in_ok-new.ensures c.plan_chosen.ensures
