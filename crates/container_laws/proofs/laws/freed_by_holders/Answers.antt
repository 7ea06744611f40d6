use Rattle.container_laws.proofs.FreedLaws.{freed-by_holders}
use Rattle.container_laws.proofs.laws.freed_by_holders.Goals as goal

pub returns : goal.returns
returns c = freed-by_holders
