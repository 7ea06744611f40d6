use Rattle.read_packed.proofs.Held.{unplaced}
use Rattle.read_packed.proofs.packed.unplaced.Goals as goal

pub returns : goal.returns
returns c = unplaced c.args.last c.fits-last.0
