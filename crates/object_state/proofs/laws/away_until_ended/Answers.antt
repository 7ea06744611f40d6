use Rattle.object_state.proofs.Tables.{away-until_ended}
use Rattle.object_state.proofs.laws.away_until_ended.Goals as goal

pub returns : goal.returns
returns c = away-until_ended
