use Rattle.object_core.proofs.Staying.{note-delete}
use Rattle.object_kinds.proofs.note.Note.delete.Goals as goal

pub invariant_of-self : goal.invariant_of-self
invariant_of-self c = rw c.delete.ensures
    (note-delete c.args.place c.args.count c.self.inside.text.items c.self.invariant)
