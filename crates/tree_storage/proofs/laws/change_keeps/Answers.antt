use Rattle.tree_storage.proofs.Wholes.{change_keeps}
use Rattle.tree_storage.proofs.laws.change_keeps.Goals as goal

pub returns : goal.returns
returns c = change_keeps
