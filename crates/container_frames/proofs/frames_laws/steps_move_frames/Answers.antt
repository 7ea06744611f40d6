use Rattle.container_frames.proofs.Steps.{steps_move_frames}
use Rattle.container_frames.proofs.frames_laws.steps_move_frames.Goals as goal

pub returns : goal.returns
returns c = steps_move_frames
