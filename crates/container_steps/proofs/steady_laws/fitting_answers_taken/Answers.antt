use Rattle.container_steps.proofs.SteadyMessages.{fitting_answers_taken}
use Rattle.container_steps.proofs.steady_laws.fitting_answers_taken.Goals as goal

pub returns : goal.returns
returns c = fitting_answers_taken
