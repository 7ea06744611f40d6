use Rattle.std.proofs.Common.{◌≡◌, ◌++◌}
use Rattle.tree_storage.proofs.Entries.{shows}
use Rattle.tree_storage.proofs.storage.+copies.Given as goal

abbrev pub invariant-copy-loop-key : goal.invariant-copy-loop-key
invariant-copy-loop-key l = shows l.children.entries ++ shows l.key-iterator ≡ shows l.storage.children.entries
