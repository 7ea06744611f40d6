use Rattle.container_laws.proofs.WriteLaws.{writes-are_kept}
use Rattle.container_laws.proofs.laws.writes_are_kept.Goals as goal

pub returns : goal.returns
returns c = writes-are_kept
