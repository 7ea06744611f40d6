use Rattle.std.proofs.Common.{◌+◌, ◌*◌}
use Rattle.read_outlines.specs.Keeping.{wanted}
use Rattle.read_files.proofs.ReadingSteps.{AreOutlined}
use Rattle.read_files.proofs.read.Reader.+storages.Given as goal

abbrev pub decreases-storage_outline : goal.decreases-storage_outline
decreases-storage_outline l = 3 * l.depth + 2

abbrev pub decreases-push_child : goal.decreases-push_child
decreases-push_child l = 3 * l.depth + 1

abbrev pub decreases-part_outline : goal.decreases-part_outline
decreases-part_outline l = 3 * l.depth

abbrev pub invariant-storage_outline-loop-child : goal.invariant-storage_outline-loop-child
invariant-storage_outline-loop-child l = AreOutlined l.depth l.child-items l.initial.self (wanted l.keep)
    l.child-index l.self l.parts.items
