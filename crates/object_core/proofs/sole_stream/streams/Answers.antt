use Rattle.std.proofs.Common.{rules}
use Rattle.object_core.proofs.sole_stream.streams.Goals as goal

pub returns-in-Ok-push-clause-streams : goal.returns-in-Ok-push-clause-streams
returns-in-Ok-push-clause-streams c = search rules
