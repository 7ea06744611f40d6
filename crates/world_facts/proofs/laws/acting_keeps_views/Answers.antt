use Rattle.world_facts.proofs.Viewing.{views_acted}
use Rattle.world_facts.proofs.laws.acting_keeps_views.Goals as goal

pub returns : goal.returns
returns c = λ hostile. views_acted {hostile = hostile}
