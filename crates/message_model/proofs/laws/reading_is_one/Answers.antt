use Rattle.message_model.proofs.Readings.{reading_is_one}
use Rattle.message_model.proofs.laws.reading_is_one.Goals as goal

pub returns : goal.returns
returns c = reading_is_one
