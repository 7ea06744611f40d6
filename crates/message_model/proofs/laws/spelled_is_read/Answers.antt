use Rattle.message_model.proofs.Readings.{spelled_is_read}
use Rattle.message_model.proofs.laws.spelled_is_read.Goals as goal

pub returns : goal.returns
returns c = spelled_is_read
