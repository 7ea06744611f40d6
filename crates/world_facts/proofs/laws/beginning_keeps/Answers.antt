use Rattle.world_facts.proofs.Beginning.{begun}
use Rattle.world_facts.proofs.laws.beginning_keeps.Goals as goal

pub returns : goal.returns
returns c = λ hostile. begun {hostile = hostile}
