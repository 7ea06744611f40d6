use Rattle.world_facts.proofs.Leaving.{views_kept}
use Rattle.world_facts.proofs.laws.leaving_keeps_views.Goals as goal

pub returns : goal.returns
returns c = λ hostile. views_kept {hostile = hostile}
