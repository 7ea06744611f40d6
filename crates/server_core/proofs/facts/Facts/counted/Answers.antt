use Rattle.std.proofs.Common.{rules}
use Rattle.server_core.proofs.facts.Facts.counted.Goals as goal

pub returns-in-None : goal.returns-in-None
returns-in-None c = search rules
