use Rattle.std.proofs.Common.{rules}
use Rattle.object_state.proofs.grant_states.granted.Goals as goal

pub returns-in-Granting : goal.returns-in-Granting
returns-in-Granting c = search rules

pub returns-in_default : goal.returns-in_default
returns-in_default c = search rules
