use Rattle.std.proofs.Common.{◌≡◌, ◌++◌, Ok}
use Rattle.std.specs.Vec.Iter.{into_iter_items}
use Rattle.tree_storage.specs.Kept.{kept}
use Rattle.tree_edits.specs.Edited.{edited}
use Rattle.tree_edits.proofs.editing.edit.Given as goal

abbrev pub invariant-loop-numbered : goal.invariant-loop-numbered
invariant-loop-numbered l = (edited l.yielded (kept l.fn.tree) ≡ Ok (kept l.tree))
    × (l.yielded ++ into_iter_items l.numbered-iterator ≡ l.fn.changes.items)
