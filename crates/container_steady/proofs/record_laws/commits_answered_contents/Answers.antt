use Rattle.container_steady.proofs.SteadyContents.{commits_answered_contents}
use Rattle.container_steady.proofs.record_laws.commits_answered_contents.Goals as goal

pub returns : goal.returns
returns c = commits_answered_contents
