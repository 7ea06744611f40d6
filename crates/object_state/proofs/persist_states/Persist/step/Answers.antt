use Rattle.std.proofs.Common.{rules}
use Rattle.object_state.proofs.persist_states.Persist.step.Goals as goal

pub returns-in_default : goal.returns-in_default
returns-in_default c = search rules
