use Rattle.object_state.proofs.Tables.{normal-again}
use Rattle.object_state.proofs.laws.normal_again.Goals as goal

pub returns : goal.returns
returns c = normal-again
