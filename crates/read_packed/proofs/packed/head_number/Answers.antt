use Rattle.std.proofs.Common.{◌∙◌, arith}
use Rattle.read_packed.proofs.Held.{in_head}
use Rattle.read_packed.proofs.packed.head_number.Goals as goal

pub returns : goal.returns
returns c = c.read_u32.ensures ∙ in_head c.args.short.now c.args.at (omega arith) (omega arith) (omega arith)
    c.requires.0 c.requires.1
