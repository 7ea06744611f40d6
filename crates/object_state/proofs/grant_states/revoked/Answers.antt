use Rattle.std.proofs.Common.{rules}
use Rattle.object_state.proofs.grant_states.revoked.Goals as goal

pub returns-in-Revoking : goal.returns-in-Revoking
returns-in-Revoking c = search rules
