use Rattle.container_laws.proofs.OpensLaws.{files-give_theirs}
use Rattle.container_laws.proofs.open_laws.files_give_theirs.Goals as goal

pub returns : goal.returns
returns c = files-give_theirs
