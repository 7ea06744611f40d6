use Rattle.container_laws.proofs.CommitsLaws.{commit_counts}
use Rattle.container_laws.proofs.commit_laws.commit_counts.Goals as goal

pub returns : goal.returns
returns c = commit_counts
