-- What a storage and a node stand for, by their parts.
use Rattle.std.proofs.Common.{◌≡◌, ℕ, List, sym, ◌∙◌, ap}
use Rattle.std.specs.BTreeMap.{BTreeMap}
use Rattle.cfb_entries.specs.Tree.{Tree, tree}
use Rattle.tree_storage.specs.Child.{Seen, bytes, inner}
use Rattle.tree_storage.specs.NodeView.{node_step, storage_step, seen, view, children}
use Rattle.tree_storage.specs.declared.nodes.Node.{Node, fold-roll-Node}
use Rattle.tree_storage.specs.declared.nodes.Node.TheOpen.{Node-F}
use Rattle.tree_storage.specs.declared.nodes.Node.TheVariants as variant
use Rattle.tree_storage.specs.declared.nodes.Node.TheVariants.{rolls-Stream, rolls-Storage}
use Rattle.tree_storage.specs.declared.nodes.Node.TheViews.{roll-Storage}
use Rattle.tree_storage.specs.declared.nodes.Storage.{Storage, fold-roll-Storage, fold_out-Storage}

pub view-out : (s : Storage) → view s ≡ tree s.class s.state (children s.children.entries)
view-out s = fold_out-Storage Seen Tree node_step storage_step s

pub view-roll : (class : List ℕ) (state : ℕ) (m : BTreeMap (List ℕ) (List ℕ × Node))
    → view (roll-Storage (record { class = class; state = state; children = m }))
    ≡ tree class state (children m.entries)
view-roll class state m = fold-roll-Storage Seen Tree node_step storage_step
    (record { class = class; state = state; children = m })

pub seen-stream : (b : List ℕ) → seen (variant.Stream b) ≡ bytes b
seen-stream b = ap seen (sym (rolls-Stream b)) ∙ fold-roll-Node Seen Tree node_step storage_step (Node-F.Stream b)

pub seen-storage : (s : Storage) → seen (variant.Storage s) ≡ inner (view s)
seen-storage s = ap seen (sym (rolls-Storage s)) ∙ fold-roll-Node Seen Tree node_step storage_step (Node-F.Storage s)
