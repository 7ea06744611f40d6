use Rattle.object_state.proofs.Table.{border-leaves_room}
use Rattle.object_state.proofs.grant_laws.border_leaves_room.Goals as goal

pub returns : goal.returns
returns c = border-leaves_room
