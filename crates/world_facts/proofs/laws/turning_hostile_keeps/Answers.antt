use Rattle.world_facts.proofs.Honest.{turned_facts}
use Rattle.world_facts.proofs.laws.turning_hostile_keeps.Goals as goal

pub returns : goal.returns
returns c = turned_facts
