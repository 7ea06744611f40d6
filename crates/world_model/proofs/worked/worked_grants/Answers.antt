use Rattle.world_model.proofs.Granted.{worked_grants}
use Rattle.world_model.proofs.worked.worked_grants.Goals as goal

pub returns : goal.returns
returns c = worked_grants
