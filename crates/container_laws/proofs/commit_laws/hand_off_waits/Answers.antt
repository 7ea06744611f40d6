use Rattle.container_laws.proofs.CommitsLaws.{hand_off_waits}
use Rattle.container_laws.proofs.commit_laws.hand_off_waits.Goals as goal

pub returns : goal.returns
returns c = hand_off_waits
