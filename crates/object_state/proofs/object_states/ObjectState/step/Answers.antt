use Rattle.std.proofs.Common.{rules}
use Rattle.object_state.proofs.object_states.ObjectState.step.Goals as goal

pub returns-in-Close-Running : goal.returns-in-Close-Running
returns-in-Close-Running c = search rules
