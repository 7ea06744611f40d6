use Rattle.world_facts.proofs.Honest.{turned_views}
use Rattle.world_facts.proofs.laws.turning_hostile_keeps_views.Goals as goal

pub returns : goal.returns
returns c = turned_views
