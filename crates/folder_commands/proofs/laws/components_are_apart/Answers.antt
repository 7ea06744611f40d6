use Rattle.folder_commands.proofs.Folded.{apart}
use Rattle.folder_commands.proofs.laws.components_are_apart.Goals as goal

pub returns : goal.returns
returns c = apart
