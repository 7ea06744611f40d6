use Rattle.server_model.proofs.Steady.{others-stay}
use Rattle.server_model.proofs.laws.others_stay.Goals as goal

pub returns : goal.returns
returns c = others-stay
