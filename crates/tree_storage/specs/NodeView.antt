-- The tree that a storage stands for.
use Rattle.std.specs.Prelude.{ℕ, List, [], ◌∷◌, map}
use Rattle.cfb_entries.specs.Tree.{Tree, Children, tree, none}
use Rattle.tree_storage.specs.Child.{Seen, bytes, inner, child}
use Rattle.tree_storage.specs.declared.nodes.Node.{Node, fold-Node}
use Rattle.tree_storage.specs.declared.nodes.Node.TheOpen.{Node-F, Storage-F}
use Rattle.tree_storage.specs.declared.nodes.Storage.{Storage, fold-Storage}

abbrev pub children_of : List (List ℕ × (List ℕ × Seen)) → Children
children_of [] = none
children_of ((k, c) ∷ cs) = child k c (children_of cs)

abbrev pub node_step : Node-F Seen Tree → Seen
node_step (Node-F.Stream b) = bytes b
node_step (Node-F.Storage t) = inner t

abbrev pub storage_step : Storage-F Seen Tree → Tree
storage_step s = tree s.class s.state (children_of s.children.entries)

abbrev pub seen : Node → Seen
seen = fold-Node Seen Tree node_step storage_step

abbrev pub view : Storage → Tree
view = fold-Storage Seen Tree node_step storage_step

abbrev pub shown : List ℕ × Node → List ℕ × Seen
shown c = (c.0, seen c.1)

abbrev pub children : List (List ℕ × (List ℕ × Node)) → Children
children es = children_of (map (λ e. (e.0, shown e.1)) es)
