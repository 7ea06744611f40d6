use Rattle.std.proofs.Common.{rules}
use Rattle.world_host.proofs.host.Host.commit.Goals as goal

pub returns-in-Ok-clause-taken : goal.returns-in-Ok-clause-taken
returns-in-Ok-clause-taken c = search rules
