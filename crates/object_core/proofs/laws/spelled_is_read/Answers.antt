use Rattle.object_core.proofs.Spelling.{spelled_is_read}
use Rattle.object_core.proofs.laws.spelled_is_read.Goals as goal

pub returns : goal.returns
returns c = spelled_is_read
