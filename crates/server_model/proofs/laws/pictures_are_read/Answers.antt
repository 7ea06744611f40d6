use Rattle.server_model.proofs.StoredSizes.{pictures-read}
use Rattle.server_model.proofs.laws.pictures_are_read.Goals as goal

pub returns : goal.returns
returns c = pictures-read
