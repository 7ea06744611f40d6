use Rattle.container_laws.proofs.CommitsLaws.{save_waits}
use Rattle.container_laws.proofs.commit_laws.save_waits.Goals as goal

pub returns : goal.returns
returns c = save_waits
