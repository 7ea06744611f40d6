use Rattle.std.proofs.Common.{rules}
use Rattle.object_state.proofs.grant_states.asked.Goals as goal

pub returns-then-is_another : goal.returns-then-is_another
returns-then-is_another c = search rules
