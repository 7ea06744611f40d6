use Rattle.std.proofs.Common.{rules}
use Rattle.ole_model.proofs.presentation.Presentation.read.Goals as goal

pub returns-in_ok-from_slice-in-None : goal.returns-in_ok-from_slice-in-None
returns-in_ok-from_slice-in-None c = search rules
