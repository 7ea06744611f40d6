use Rattle.read_packed.proofs.Held.{zero_of_mask}
use Rattle.read_packed.proofs.packed.is_zero.Goals as goal

pub returns : goal.returns
returns c = zero_of_mask c.args.bytes c.fits-bytes.0
