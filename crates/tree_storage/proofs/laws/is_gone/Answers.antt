use Rattle.tree_storage.proofs.Gone.{is_gone}
use Rattle.tree_storage.proofs.laws.is_gone.Goals as goal

pub returns : goal.returns
returns c = is_gone
