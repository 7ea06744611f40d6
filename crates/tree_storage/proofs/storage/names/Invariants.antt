use Rattle.std.proofs.Common.{◌≡◌, ◌++◌}
use Rattle.cfb_entries.specs.Tree.{names}
use Rattle.tree_storage.specs.View.{children}
use Rattle.tree_storage.proofs.storage.names.Given as goal

abbrev pub invariant-loop-child : goal.invariant-loop-child
invariant-loop-child l = l.names.items ++ names (children l.child-iterator)
    ≡ names (children l.storage.children.entries)
