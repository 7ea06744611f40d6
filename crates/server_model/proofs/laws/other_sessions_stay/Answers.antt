use Rattle.server_model.proofs.Steady.{other-sessions_stay}
use Rattle.server_model.proofs.laws.other_sessions_stay.Goals as goal

pub returns : goal.returns
returns c = other-sessions_stay
