use Rattle.std.proofs.Common.{refl}
use Rattle.store_images.proofs.laws.limit_is.Goals as goal

pub returns : goal.returns
returns c = refl
