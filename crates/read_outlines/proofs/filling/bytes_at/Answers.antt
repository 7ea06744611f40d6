use Rattle.std.proofs.Common.{rules}
use Rattle.read_outlines.proofs.filling.bytes_at.Goals as goal

pub returns-else-is_short : goal.returns-else-is_short
returns-else-is_short c = search rules
