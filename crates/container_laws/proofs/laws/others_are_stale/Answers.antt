use Rattle.container_laws.proofs.MessageLaws.{others-are_stale}
use Rattle.container_laws.proofs.laws.others_are_stale.Goals as goal

pub returns : goal.returns
returns c = others-are_stale
