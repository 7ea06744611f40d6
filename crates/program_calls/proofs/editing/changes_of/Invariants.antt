use Rattle.std.proofs.Common.{◌≡◌, ◌++◌}
use Rattle.std.specs.Vec.Iter.{into_iter_items}
use Rattle.tree_edits.specs.Given.{AreGiven}
use Rattle.program_calls.specs.Edits.{no_file}
use Rattle.program_calls.proofs.editing.changes_of.Given as goal

abbrev pub invariant-loop-numbered : goal.invariant-loop-numbered
invariant-loop-numbered l = AreGiven no_file l.yielded l.changes.items
    × (l.yielded ++ into_iter_items l.numbered-iterator ≡ l.fn.lines.items)
