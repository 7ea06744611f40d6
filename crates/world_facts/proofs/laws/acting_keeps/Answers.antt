use Rattle.world_facts.proofs.Acting.{acted}
use Rattle.world_facts.proofs.laws.acting_keeps.Goals as goal

pub returns : goal.returns
returns c = λ hostile. acted {hostile = hostile}
