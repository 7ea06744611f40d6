use Rattle.ole_model.proofs.Again.{lines_again}
use Rattle.ole_model.proofs.laws.lines_are_read_again.Goals as goal

pub returns : goal.returns
returns c = lines_again
