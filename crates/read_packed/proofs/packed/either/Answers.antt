use Rattle.read_packed.proofs.Held.{both_zero}
use Rattle.read_packed.proofs.packed.either.Goals as goal

pub returns : goal.returns
returns c = both_zero 32 c.args.a c.args.b c.fits-a.0 c.fits-b.0
