use Rattle.object_core.proofs.Told.{read_was_spelled}
use Rattle.object_core.proofs.laws.read_was_spelled.Goals as goal

pub returns : goal.returns
returns c = read_was_spelled
