use Rattle.tree_storage.proofs.Lawful.{stays}
use Rattle.tree_storage.proofs.laws.stays.Goals as goal

pub returns : goal.returns
returns c = stays
