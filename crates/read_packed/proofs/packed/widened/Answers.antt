use Rattle.read_packed.proofs.Held.{widened}
use Rattle.read_packed.proofs.packed.widened.Goals as goal

pub returns : goal.returns
returns c = widened c.args.characters c.fits-characters.0
