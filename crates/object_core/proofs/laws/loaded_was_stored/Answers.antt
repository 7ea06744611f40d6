use Rattle.object_core.proofs.Storing.{loaded_was_stored}
use Rattle.object_core.proofs.laws.loaded_was_stored.Goals as goal

pub returns : goal.returns
returns c = loaded_was_stored
