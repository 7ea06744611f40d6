use Rattle.object_state.proofs.Table.{held-by_answer}
use Rattle.object_state.proofs.grant_laws.held_by_answer.Goals as goal

pub returns : goal.returns
returns c = held-by_answer
