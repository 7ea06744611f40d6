use Rattle.world_facts.proofs.Counting.{all_counted}
use Rattle.world_facts.proofs.laws.counting_keeps.Goals as goal

pub returns : goal.returns
returns c = λ hostile. all_counted {hostile = hostile}
