use Rattle.std.proofs.Common.{rules}
use Rattle.object_state.proofs.frame_ui.FrameUi.border.Goals as goal

pub returns-else-has_room : goal.returns-else-has_room
returns-else-has_room c = search rules
