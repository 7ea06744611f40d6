-- What is known of a child of a tree, and of a tree inside a tree.
use Rattle.std.proofs.Common.{ℕ, zero, suc, List}
use Rattle.cfb_entries.specs.Tree.{Tree, Children, none, stream, storage}
use Rattle.tree_storage.specs.Change.{Seen, bytes, inner, child}
use Rattle.cfb_entries.specs.Whole.{AreTrees, IsTree, IsWhole}
use Rattle.read_outlines.proofs.Followed.{followed}

pub trees_whole : (depth : ℕ) (cs : Children) (k n : List ℕ) (s : Seen) (ds : Children)
    → AreTrees depth (followed cs (child k (n, s) ds)) → IsWhole depth s
trees_whole depth none k n (bytes b) ds h = tt
trees_whole zero none k n (inner t) ds h = absurd h
trees_whole (suc depth) none k n (inner t) ds h = h.2
trees_whole depth (stream q m b cs) k n s ds h = trees_whole depth cs k n s ds h.2
trees_whole zero (storage q m t cs) k n s ds h = absurd h
trees_whole (suc depth) (storage q m t cs) k n s ds h = trees_whole (suc depth) cs k n s ds h.3

-- what may stand at some depth is a tree there
pub whole_inner : (depth : ℕ) (t : Tree) → IsWhole depth (inner t) → (d : ℕ) × IsTree d t
whole_inner zero t h = absurd h
whole_inner (suc d) t h = (d, h)
