use Rattle.std.proofs.Common.{rules}
use Rattle.object_state.proofs.frame_ui.FrameUi.lost.Goals as goal

pub returns : goal.returns
returns c = search rules
