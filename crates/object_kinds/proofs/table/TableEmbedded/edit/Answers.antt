use Rattle.std.proofs.Common.{rules}
use Rattle.object_kinds.proofs.table.TableEmbedded.edit.Goals as goal

pub returns-in-Some-Set-clause-edited : goal.returns-in-Some-Set-clause-edited
returns-in-Some-Set-clause-edited c = search rules
