use Rattle.object_state.proofs.Table.{freed-by_holder}
use Rattle.object_state.proofs.grant_laws.freed_by_holder.Goals as goal

pub returns : goal.returns
returns c = freed-by_holder
