use Rattle.tree_storage.proofs.Lawful.{put_is_there}
use Rattle.tree_storage.proofs.laws.put_is_there.Goals as goal

pub returns : goal.returns
returns c = put_is_there
