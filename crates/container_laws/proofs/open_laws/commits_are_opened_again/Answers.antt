use Rattle.container_laws.proofs.OpensLaws.{commits-are_opened_again}
use Rattle.container_laws.proofs.open_laws.commits_are_opened_again.Goals as goal

pub returns : goal.returns
returns c = commits-are_opened_again
