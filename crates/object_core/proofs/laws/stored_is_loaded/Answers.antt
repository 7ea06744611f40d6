use Rattle.object_core.proofs.Storing.{stored_is_loaded}
use Rattle.object_core.proofs.laws.stored_is_loaded.Goals as goal

pub returns : goal.returns
returns c = stored_is_loaded
