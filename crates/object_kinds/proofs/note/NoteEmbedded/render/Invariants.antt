use Rattle.std.proofs.Common.{◌≡◌, ◌-◌, ◌++◌}
use Rattle.object_core.specs.Pictures.{text_lines}
use Rattle.object_kinds.proofs.Shown.{shown}
use Rattle.object_kinds.proofs.note.NoteEmbedded.render.Given as goal

abbrev pub invariant-loop : goal.invariant-loop
invariant-loop l = l.picture.items ++ shown (20 - l.counter) l.lines ≡ shown 20 (text_lines l.self)
