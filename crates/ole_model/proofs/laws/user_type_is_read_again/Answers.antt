use Rattle.ole_model.proofs.Again.{user_type_again}
use Rattle.ole_model.proofs.laws.user_type_is_read_again.Goals as goal

pub returns : goal.returns
returns c = user_type_again
