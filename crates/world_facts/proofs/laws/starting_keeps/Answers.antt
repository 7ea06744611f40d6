use Rattle.world_facts.proofs.Starting.{started}
use Rattle.world_facts.proofs.laws.starting_keeps.Goals as goal

pub returns : goal.returns
returns c = λ hostile. started {hostile = hostile}
