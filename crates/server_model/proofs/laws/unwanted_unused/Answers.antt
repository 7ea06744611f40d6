use Rattle.server_model.proofs.Wanting.{unwanted-unused}
use Rattle.server_model.proofs.laws.unwanted_unused.Goals as goal

pub returns : goal.returns
returns c = unwanted-unused
