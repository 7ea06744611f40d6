use Rattle.tree_storage.proofs.Lawful.{made_is_there}
use Rattle.tree_storage.proofs.laws.made_is_there.Goals as goal

pub returns : goal.returns
returns c = made_is_there
