use Rattle.container_numbers.proofs.Sessions.{in_session_from_the_start}
use Rattle.container_numbers.proofs.sound_laws.in_session_from_the_start.Goals as goal

pub returns : goal.returns
returns c = in_session_from_the_start
