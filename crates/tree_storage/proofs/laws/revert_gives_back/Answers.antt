use Rattle.tree_storage.proofs.Gone.{revert_gives_back}
use Rattle.tree_storage.proofs.laws.revert_gives_back.Goals as goal

pub returns : goal.returns
returns c = revert_gives_back
