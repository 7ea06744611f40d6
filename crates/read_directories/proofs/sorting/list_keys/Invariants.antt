use Rattle.std.proofs.Common.{◌≡◌, ◌≤◌, length, take}
use Rattle.std.specs.Prelude.{vec_capacity}
use Rattle.read_directories.specs.Sorting.{keyed}
use Rattle.read_directories.proofs.sorting.list_keys.Given as goal

abbrev pub invariant-loop-id : goal.invariant-loop-id
invariant-loop-id l = (l.list.items ≡ keyed l.entries.directory (take l.id-index l.ids))
    × (length l.ids ≤ vec_capacity l.list)
