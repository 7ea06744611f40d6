-- Children put one after another behind those so far.
use Rattle.std.proofs.Common.{◌≡◌, List, ℕ, ap, refl}
use Rattle.tree_storage.specs.Change.{Seen, bytes, inner, child}
use Rattle.cfb_entries.specs.Tree.{Children, none, stream, storage}

-- children with others behind them
abbrev pub followed : Children → Children → Children
followed none ds = ds
followed (stream k n b cs) ds = stream k n b (followed cs ds)
followed (storage k n t cs) ds = storage k n t (followed cs ds)

pub followed-none : (cs : Children) → followed cs none ≡ cs
followed-none none = refl
followed-none (stream k n b cs) = ap (stream k n b) (followed-none cs)
followed-none (storage k n t cs) = ap (storage k n t) (followed-none cs)

pub followed-child : (cs : Children) (k : List ℕ) (c : List ℕ × Seen) (ds : Children)
    → followed (followed cs (child k c none)) ds ≡ followed cs (child k c ds)
followed-child none k (n, bytes b) ds = refl
followed-child none k (n, inner t) ds = refl
followed-child (stream q m b cs) k c ds = ap (stream q m b) (followed-child cs k c ds)
followed-child (storage q m t cs) k c ds = ap (storage q m t) (followed-child cs k c ds)
