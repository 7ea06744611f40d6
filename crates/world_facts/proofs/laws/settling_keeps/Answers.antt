use Rattle.world_facts.proofs.Settled.{settled}
use Rattle.world_facts.proofs.laws.settling_keeps.Goals as goal

pub returns : goal.returns
returns c = λ hostile. settled {hostile = hostile}
