use Rattle.message_model.proofs.Readings.{spellings_are_apart}
use Rattle.message_model.proofs.laws.spellings_are_apart.Goals as goal

pub returns : goal.returns
returns c = spellings_are_apart
