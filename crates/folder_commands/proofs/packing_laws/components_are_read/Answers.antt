use Rattle.folder_commands.proofs.ReadNames.{components_read}
use Rattle.folder_commands.proofs.packing_laws.components_are_read.Goals as goal

pub returns : goal.returns
returns c = components_read
