use Rattle.std.proofs.Common.{rules}
use Rattle.write_parts.proofs.streams.is_short.Goals as goal

pub returns : goal.returns
returns c = search rules
