use Rattle.object_state.proofs.Table.{containers-unless_held}
use Rattle.object_state.proofs.grant_laws.containers_unless_held.Goals as goal

pub returns : goal.returns
returns c = containers-unless_held
