use Rattle.std.proofs.Common.{rules}
use Rattle.object_kinds.proofs.drawing.DrawingEmbedded.edit.Goals as goal

pub returns-in-Some-Add-clause-edited : goal.returns-in-Some-Add-clause-edited
returns-in-Some-Add-clause-edited c = search rules
