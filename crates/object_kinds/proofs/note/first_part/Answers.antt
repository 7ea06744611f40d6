use Rattle.object_kinds.proofs.Shown.{shown_part}
use Rattle.object_kinds.proofs.note.first_part.Goals as goal

pub returns : goal.returns
returns c = shown_part c.min.result c.args.line.now c.min.ensures
