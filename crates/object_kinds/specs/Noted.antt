-- The edits of a note.
use Rattle.object_core.specs.Edits.{Edit, insert, delete}
use Rattle.object_kinds.specs.declared.note_edits.NoteEdit.{NoteEdit}
use Rattle.object_kinds.specs.declared.note_edits.NoteEdit.TheVariants.{Insert, Delete}

abbrev pub edit_told : NoteEdit → Edit
edit_told (Insert place text) = insert place text.now
edit_told (Delete place count) = delete place count
