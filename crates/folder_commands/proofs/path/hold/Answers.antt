use Rattle.folder_commands.proofs.Components.{component_sound}
use Rattle.folder_commands.proofs.path.hold.Goals as goal

pub returns : goal.returns
returns c = component_sound c.args.name.now c.as_bytes.ensures.valid
