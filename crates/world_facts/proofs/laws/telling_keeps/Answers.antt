use Rattle.world_facts.proofs.Telling.{told_all}
use Rattle.world_facts.proofs.laws.telling_keeps.Goals as goal

pub returns : goal.returns
returns c = λ hostile. told_all {hostile = hostile}
