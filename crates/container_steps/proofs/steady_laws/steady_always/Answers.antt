use Rattle.container_steps.proofs.SteadyRuns.{steady_always}
use Rattle.container_steps.proofs.steady_laws.steady_always.Goals as goal

pub returns : goal.returns
returns c = steady_always
