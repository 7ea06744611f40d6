use Rattle.container_laws.proofs.OpensLaws.{held-is_within}
use Rattle.container_laws.proofs.open_laws.held_is_within.Goals as goal

pub returns : goal.returns
returns c = held-is_within
