use Rattle.std.proofs.Common.{◌≡◌, ◌++◌, ℕ, List, drop}
use Rattle.read_outlines.specs.declared.outline.Place.{Place}
use Rattle.folder_commands.specs.Planned.{entries_of}
use Rattle.folder_commands.proofs.Picked.{made_of}
use Rattle.folder_commands.proofs.planning.+planning.Given as goal

abbrev pub invariant-push_storage-loop-part : goal.invariant-push_storage-loop-part
invariant-push_storage-loop-part l = (content : Place → List ℕ)
    → entries_of content l.planned.items ++ made_of content l.path l.paths (drop l.part-index l.part-items)
    ≡ entries_of content l.initial.planned.items ++ made_of content l.path l.paths l.part-items
