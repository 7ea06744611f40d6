-- What is found in a storage, and entries that move in it.
use Rattle.std.specs.Prelude.{ℕ, List, Option, Some, None}
use Rattle.std.specs.BTreeMap.{is_at}
use Rattle.std.specs.Map.{lookup, set_value, remove_entry}
use Rattle.cfb_names.specs.Names.{key_cmp}
pub use Rattle.tree_storage.specs.NodeView.{children_of, node_step, storage_step, seen, view, shown, children}
use Rattle.tree_storage.specs.Change.{Seen, bytes, inner}
use Rattle.tree_storage.specs.declared.nodes.Node.{Node}
use Rattle.tree_storage.specs.declared.storage.Found.{Found}
use Rattle.tree_storage.specs.declared.storage.Found.TheVariants as found

abbrev pub found_seen : Found → Seen
found_seen (found.Stream b) = bytes b.now
found_seen (found.Storage s) = inner (view s.now)

-- entries with what stands under one key moved to the entry of another
abbrev pub with_node : List ℕ → Node → List (List ℕ × (List ℕ × Node)) → Option (List ℕ × Node)
    → List (List ℕ × (List ℕ × Node))
with_node new n es None = es
with_node new n es (Some c) = set_value (is_at (key_cmp new)) es (c.0, n)

abbrev pub moved_from : List ℕ → List ℕ → List (List ℕ × (List ℕ × Node)) → Option (List ℕ × Node)
    → List (List ℕ × (List ℕ × Node))
moved_from k new es None = es
moved_from k new es (Some c) = with_node new c.1 (remove_entry (is_at (key_cmp k)) es)
    (lookup (is_at (key_cmp new)) (remove_entry (is_at (key_cmp k)) es))

abbrev pub moved : List ℕ → List ℕ → List (List ℕ × (List ℕ × Node)) → List (List ℕ × (List ℕ × Node))
moved k new es = moved_from k new es (lookup (is_at (key_cmp k)) es)
