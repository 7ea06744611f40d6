use Rattle.container_steps.proofs.SteadyRuns.{on_input_keeps}
use Rattle.container_steps.proofs.steady_laws.steady_after.Goals as goal

pub returns : goal.returns
returns c = on_input_keeps
