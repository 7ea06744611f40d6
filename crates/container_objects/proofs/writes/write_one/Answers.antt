use Rattle.std.proofs.Common.{rules}
use Rattle.container_objects.proofs.writes.write_one.Goals as goal

pub returns-clause-taken : goal.returns-clause-taken
returns-clause-taken c = search rules
