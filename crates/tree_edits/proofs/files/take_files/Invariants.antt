use Rattle.std.proofs.Common.{◌≡◌, ◌++◌}
use Rattle.std.specs.Vec.Iter.{into_iter_items}
use Rattle.tree_edits.specs.Given.{AreGiven}
use Rattle.tree_edits.proofs.files.take_files.Given as goal

abbrev pub invariant-loop-numbered : goal.invariant-loop-numbered
invariant-loop-numbered g l = AreGiven (g.S.Shelf.gives l.shelf) l.yielded l.changes.items
    × (l.yielded ++ into_iter_items l.numbered-iterator ≡ l.fn.lines.items)
