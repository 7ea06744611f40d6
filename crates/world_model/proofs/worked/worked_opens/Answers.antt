use Rattle.world_model.proofs.Opened.{worked_opens}
use Rattle.world_model.proofs.worked.worked_opens.Goals as goal

pub returns : goal.returns
returns c = worked_opens
