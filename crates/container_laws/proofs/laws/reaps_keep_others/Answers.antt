use Rattle.container_laws.proofs.ReapLaws.{reaps-keep_others}
use Rattle.container_laws.proofs.laws.reaps_keep_others.Goals as goal

pub returns : goal.returns
returns c = reaps-keep_others
