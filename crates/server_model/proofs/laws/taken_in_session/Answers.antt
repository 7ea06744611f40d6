use Rattle.server_model.proofs.Steady.{taken-in_session}
use Rattle.server_model.proofs.laws.taken_in_session.Goals as goal

pub returns : goal.returns
returns c = taken-in_session
