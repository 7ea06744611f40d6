use Rattle.server_model.proofs.Wanting.{wanted-used}
use Rattle.server_model.proofs.laws.wanted_used.Goals as goal

pub returns : goal.returns
returns c = wanted-used
