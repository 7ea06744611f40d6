use Rattle.container_laws.proofs.ReapLaws.{reaps-end_theirs}
use Rattle.container_laws.proofs.laws.reaps_end_theirs.Goals as goal

pub returns : goal.returns
returns c = reaps-end_theirs
