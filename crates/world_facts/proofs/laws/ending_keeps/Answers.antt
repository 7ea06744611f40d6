use Rattle.world_facts.proofs.Ending.{some_ended}
use Rattle.world_facts.proofs.laws.ending_keeps.Goals as goal

pub returns : goal.returns
returns c = λ hostile. some_ended {hostile = hostile}
