use Rattle.std.proofs.Common.{arith, rules, ◌≤◌, length}
use Rattle.object_core.specs.Content.{NOTE_SIZE}
use Rattle.object_core.proofs.Staying.{note-insert, note-size}
use Rattle.object_kinds.proofs.note.Note.insert.Goals as goal

pub invariant_of-self-2 : goal.invariant_of-self-2
invariant_of-self-2 c =
    let size : length c.self.inside.text.items ≤ NOTE_SIZE = note-size c.self.inside.text.items c.self.invariant in
    rw c.in_ok-insert.ensures.inserted
    (note-insert c.args.place c.args.more.now c.self.inside.text.items (search rules) (omega arith) c.self.invariant)
