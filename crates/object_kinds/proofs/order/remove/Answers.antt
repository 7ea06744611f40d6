use Rattle.std.proofs.Common.{arith, ap, ◌∙◌, ◌-◌}
use Rattle.object_kinds.specs.Drawn.{shapes_told}
use Rattle.object_kinds.proofs.Moved.{told_without}
use Rattle.object_kinds.proofs.order.remove.Goals as goal

pub returns : goal.returns
returns c =
    ap shapes_told c.remove.ensures.by_index.2 ∙ told_without c.args.figures.now.items (c.args.number - 1)
    c.args.number (omega arith)
