use Rattle.tree_storage.proofs.Lawful.{renamed_is_there}
use Rattle.tree_storage.proofs.laws.renamed_is_there.Goals as goal

pub returns : goal.returns
returns c = renamed_is_there
