use Rattle.std.proofs.Common.{◌+◌, ◌-◌, arith}
use Rattle.read_packed.proofs.Held.{put_over}
use Rattle.read_packed.proofs.packed.put.Goals as goal

pub returns : goal.returns
returns c = put_over c.args.entry.now c.args.piece c.args.at (c.args.at + 16 - c.args.at) (omega arith)
    c.fits-piece.0 (omega (arith, c.requires))
