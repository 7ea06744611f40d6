use Rattle.std.proofs.Common.{arith}
use Rattle.text_io.proofs.LineByLine.{length-pieces}
use Rattle.text_io.proofs.lines.Lines.new.Goals as goal

pub invariant_of-result : goal.invariant_of-result
invariant_of-result c = rw c.new.ensures (omega (arith, length-pieces 10 c.args.text.now, c.requires))
