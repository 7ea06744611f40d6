use Rattle.std.proofs.Common.{◌≡◌, ◌++◌, Ok}
use Rattle.std.specs.Vec.Iter.{into_iter_items}
use Rattle.tree_storage.specs.Kept.{kept}
use Rattle.folder_commands.specs.Packing.{packed}
use Rattle.folder_commands.proofs.packing.put_all.Given as goal

abbrev pub invariant-loop-item : goal.invariant-loop-item
invariant-loop-item l = (packed l.yielded (kept l.initial.tree) ≡ Ok (kept l.tree))
    × (l.yielded ++ into_iter_items l.item-iterator ≡ l.fn.found.items)
