use Rattle.ole_model.proofs.Again.{ole_again}
use Rattle.ole_model.proofs.laws.ole_is_read_again.Goals as goal

pub returns : goal.returns
returns c = ole_again
