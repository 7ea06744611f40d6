use Rattle.std.proofs.Common.{rules}
use Rattle.world_run.proofs.world.World.report.Goals as goal

pub returns-clause-reported : goal.returns-clause-reported
returns-clause-reported c = search rules
