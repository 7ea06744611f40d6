use Rattle.object_state.proofs.Tables.{closes-end}
use Rattle.object_state.proofs.laws.closes_end.Goals as goal

pub returns : goal.returns
returns c = closes-end
