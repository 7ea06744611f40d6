use Rattle.std.proofs.Common.{rules}
use Rattle.container_objects.proofs.activations.begun.Goals as goal

pub returns-clause-sent : goal.returns-clause-sent
returns-clause-sent c = search rules
