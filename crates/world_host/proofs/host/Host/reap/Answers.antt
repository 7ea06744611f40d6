use Rattle.std.proofs.Common.{rules}
use Rattle.world_host.proofs.host.Host.reap.Goals as goal

pub returns-in-Ok-clause-taken : goal.returns-in-Ok-clause-taken
returns-in-Ok-clause-taken c = search rules

pub returns-in-Ok-clause-ends : goal.returns-in-Ok-clause-ends
returns-in-Ok-clause-ends c = search rules

pub returns-in-Err : goal.returns-in-Err
returns-in-Err c = search rules
