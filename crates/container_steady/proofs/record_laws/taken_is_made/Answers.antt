use Rattle.container_steady.proofs.Taken.{taken_made}
use Rattle.container_steady.proofs.record_laws.taken_is_made.Goals as goal

pub returns : goal.returns
returns c = taken_made
