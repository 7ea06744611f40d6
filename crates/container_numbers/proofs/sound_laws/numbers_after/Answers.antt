use Rattle.container_numbers.proofs.SoundInputs.{numbers_after}
use Rattle.container_numbers.proofs.sound_laws.numbers_after.Goals as goal

pub returns : goal.returns
returns c = numbers_after
