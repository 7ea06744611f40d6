use Rattle.std.proofs.Common.{rules}
use Rattle.object_state.proofs.both_states.States.step.Goals as goal

pub returns : goal.returns
returns c = search rules
