use Rattle.std.proofs.Common.{rules}
use Rattle.object_kinds.proofs.drawing.DrawingEmbedded.save.Goals as goal

pub returns-clause-saved : goal.returns-clause-saved
returns-clause-saved c = search rules
