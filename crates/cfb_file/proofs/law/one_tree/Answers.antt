use Rattle.cfb_file.proofs.law.one_tree.Goals as goal
use Rattle.cfb_file.proofs.Unique.{one_tree}

pub returns : goal.returns
returns c = one_tree
