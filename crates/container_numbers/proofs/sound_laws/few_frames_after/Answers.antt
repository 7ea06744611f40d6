use Rattle.container_numbers.proofs.FewFrames.{few_frames_after}
use Rattle.container_numbers.proofs.sound_laws.few_frames_after.Goals as goal

pub returns : goal.returns
returns c = few_frames_after
