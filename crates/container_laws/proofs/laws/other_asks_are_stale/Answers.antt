use Rattle.container_laws.proofs.MessageLaws.{other-asks_are_stale}
use Rattle.container_laws.proofs.laws.other_asks_are_stale.Goals as goal

pub returns : goal.returns
returns c = other-asks_are_stale
