use Rattle.std.proofs.Common.{rules}
use Rattle.object_kinds.proofs.drawing.DrawingEmbedded.load.Goals as goal

pub returns-clause-loaded : goal.returns-clause-loaded
returns-clause-loaded c = search rules
