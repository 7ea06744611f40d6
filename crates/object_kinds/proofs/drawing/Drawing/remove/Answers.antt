use Rattle.std.proofs.Common.{arith}
use Rattle.object_core.proofs.Staying.{drawing-remove}
use Rattle.object_kinds.specs.Drawn.{shapes_told}
use Rattle.object_kinds.proofs.drawing.Drawing.remove.Goals as goal

pub invariant_of-self : goal.invariant_of-self
invariant_of-self c =
    rw c.remove.ensures (drawing-remove c.args.number (shapes_told c.self.inside.figures.items) (omega arith)
    c.self.invariant)
