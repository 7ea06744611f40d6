-- Streams that wait in a row, and the children that they become.
use Rattle.std.specs.Prelude.{ℕ, List, map}
use Rattle.cfb_names.specs.Names.{key}
use Rattle.tree_storage.specs.declared.nodes.Node.{Node}
use Rattle.tree_storage.specs.declared.nodes.Node.TheVariants.{Stream}

-- the child that a stream becomes: its name and bytes, under the key of its name
abbrev pub entry_of : List ℕ × List ℕ → List ℕ × (List ℕ × Node)
entry_of s = (key s.0, (s.0, Stream s.1))

abbrev pub entries_of : List (List ℕ × List ℕ) → List (List ℕ × (List ℕ × Node))
entries_of row = map entry_of row
