use Rattle.container_steady.proofs.Taken.{command_taken}
use Rattle.container_steady.proofs.record_laws.commands_are_taken_so.Goals as goal

pub returns : goal.returns
returns c = command_taken
