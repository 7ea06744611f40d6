use Rattle.std.proofs.Common.{rules}
use Rattle.object_kinds.proofs.note.NoteEmbedded.edit.Goals as goal

pub returns-in-Some-Insert-clause-edited : goal.returns-in-Some-Insert-clause-edited
returns-in-Some-Insert-clause-edited c = search rules
