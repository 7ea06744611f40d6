use Rattle.container_numbers.proofs.Sessions.{sessions_stay}
use Rattle.container_numbers.proofs.sound_laws.sessions_stay.Goals as goal

pub returns : goal.returns
returns c = sessions_stay
