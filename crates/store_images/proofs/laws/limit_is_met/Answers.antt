use Rattle.store_images.proofs.Lengths.{limit-met}
use Rattle.store_images.proofs.laws.limit_is_met.Goals as goal

pub returns : goal.returns
returns c = limit-met
