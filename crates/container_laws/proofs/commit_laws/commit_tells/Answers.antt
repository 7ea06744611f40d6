use Rattle.container_laws.proofs.CommitsLaws.{commit_tells}
use Rattle.container_laws.proofs.commit_laws.commit_tells.Goals as goal

pub returns : goal.returns
returns c = commit_tells
