use Rattle.object_state.proofs.Table.{waiting-apart}
use Rattle.object_state.proofs.grant_laws.waiting_apart.Goals as goal

pub returns : goal.returns
returns c = waiting-apart
