use Rattle.tree_storage.proofs.Lawful.{added_is_there}
use Rattle.tree_storage.proofs.laws.added_is_there.Goals as goal

pub returns : goal.returns
returns c = added_is_there
