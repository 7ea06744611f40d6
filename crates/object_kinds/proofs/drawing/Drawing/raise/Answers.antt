use Rattle.std.proofs.Common.{arith}
use Rattle.object_core.proofs.Staying.{drawing-raise}
use Rattle.object_kinds.specs.Drawn.{shapes_told}
use Rattle.object_kinds.proofs.drawing.Drawing.raise.Goals as goal

pub invariant_of-self : goal.invariant_of-self
invariant_of-self c =
    rw c.raise.ensures (drawing-raise c.args.number (shapes_told c.self.inside.figures.items) (omega arith)
    c.self.invariant)
