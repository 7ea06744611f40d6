use Rattle.std.proofs.Common.{rules}
use Rattle.container_grants.proofs.grants.tell.Goals as goal

pub returns-in-Gets-clause-frame : goal.returns-in-Gets-clause-frame
returns-in-Gets-clause-frame c = search rules

pub returns-in-Gets-clause-space : goal.returns-in-Gets-clause-space
returns-in-Gets-clause-space c = search rules
