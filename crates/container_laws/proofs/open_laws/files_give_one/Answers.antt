use Rattle.container_laws.proofs.OpensLaws.{files-give_one}
use Rattle.container_laws.proofs.open_laws.files_give_one.Goals as goal

pub returns : goal.returns
returns c = files-give_one
