use Rattle.world_model.proofs.Renamed.{worked_renames}
use Rattle.world_model.proofs.worked.worked_renames.Goals as goal

pub returns : goal.returns
returns c = worked_renames
