use Rattle.container_numbers.proofs.Sessions.{commands_want_sessions}
use Rattle.container_numbers.proofs.sound_laws.commands_want_sessions.Goals as goal

pub returns : goal.returns
returns c = commands_want_sessions
