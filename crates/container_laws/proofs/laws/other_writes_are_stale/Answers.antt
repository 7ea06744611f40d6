use Rattle.container_laws.proofs.WriteLaws.{other-writes_are_stale}
use Rattle.container_laws.proofs.laws.other_writes_are_stale.Goals as goal

pub returns : goal.returns
returns c = other-writes_are_stale
