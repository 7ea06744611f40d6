use Rattle.server_model.proofs.StoredSizes.{stored-within}
use Rattle.server_model.proofs.laws.stored_is_within.Goals as goal

pub returns : goal.returns
returns c = stored-within
