use Rattle.read_packed.proofs.Allowed.{held_so}
use Rattle.read_packed.proofs.named.holds_name.Goals as goal

pub returns : goal.returns
returns c = λ yes. held_so c.args.count c.args.characters c.fits-characters.0 c.fits-characters.1 yes
