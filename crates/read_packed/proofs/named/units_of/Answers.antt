use Rattle.read_packed.proofs.ReadNames.{behind_count}
use Rattle.read_packed.proofs.named.units_of.Goals as goal

pub returns : goal.returns
returns c = behind_count c.args.characters c.args.count c.fits-characters.0
