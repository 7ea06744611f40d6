use Rattle.object_state.proofs.Table.{given-in_turn}
use Rattle.object_state.proofs.grant_laws.given_in_turn.Goals as goal

pub returns : goal.returns
returns c = given-in_turn
