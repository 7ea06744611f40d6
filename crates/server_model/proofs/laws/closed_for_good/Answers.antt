use Rattle.server_model.proofs.Steady.{closed-for_good}
use Rattle.server_model.proofs.laws.closed_for_good.Goals as goal

pub returns : goal.returns
returns c = closed-for_good
