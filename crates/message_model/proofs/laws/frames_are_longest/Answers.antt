use Rattle.message_model.proofs.Readings.{frames_are_longest}
use Rattle.message_model.proofs.laws.frames_are_longest.Goals as goal

pub returns : goal.returns
returns c = frames_are_longest
