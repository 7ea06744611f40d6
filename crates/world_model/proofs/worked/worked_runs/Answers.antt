use Rattle.world_model.proofs.Computed.{worked_runs}
use Rattle.world_model.proofs.worked.worked_runs.Goals as goal

pub returns : goal.returns
returns c = worked_runs
