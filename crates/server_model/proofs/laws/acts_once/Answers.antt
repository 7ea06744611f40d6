use Rattle.server_model.proofs.Steady.{acts-once}
use Rattle.server_model.proofs.laws.acts_once.Goals as goal

pub returns : goal.returns
returns c = acts-once
