use Rattle.container_numbers.proofs.SoundInputs.{sound_after}
use Rattle.container_numbers.proofs.sound_laws.sound_after.Goals as goal

pub returns : goal.returns
returns c = sound_after
