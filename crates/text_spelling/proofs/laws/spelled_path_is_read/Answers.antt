use Rattle.text_spelling.proofs.Spelled.{path-spelled}
use Rattle.text_spelling.proofs.laws.spelled_path_is_read.Goals as goal

pub returns : goal.returns
returns c = path-spelled
