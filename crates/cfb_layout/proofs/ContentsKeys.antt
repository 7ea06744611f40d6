-- The keys of a whole tree's children stand in order.
use Rattle.std.proofs.Common.{◌≡◌, ℕ, zero, suc, List}
use Rattle.std.specs.List.{AllByRecursion}
use Rattle.std.specs.List.Sorted.{IsStrictlySortedBy}
use Rattle.std.specs.declared.cmp.Ordering.TheVariants.{Less}
use Rattle.cfb_names.specs.Names.{key_cmp}
use Rattle.cfb_entries.specs.Tree.{Children, none, stream, storage, keys}
use Rattle.cfb_entries.specs.Whole.{AreAbove, AreTrees}

-- every key behind is greater, so the keys stand in order
above-all : (k : List ℕ) (cs : Children) → AreAbove k cs → AllByRecursion (λ q. key_cmp k q ≡ Less) (keys cs)
above-all k none h = tt
above-all k (stream q n b cs) h = (h.0, above-all k cs h.1)
above-all k (storage q n t cs) h = (h.0, above-all k cs h.1)

pub keys-ordered : (depth : ℕ) (cs : Children) → AreTrees depth cs → IsStrictlySortedBy key_cmp (keys cs)
unfolding IsStrictlySortedBy
keys-ordered depth none h = tt
keys-ordered depth (stream q n b cs) h = (above-all q cs h.1, keys-ordered depth cs h.2)
keys-ordered zero (storage q n t cs) h = absurd h
keys-ordered (suc depth) (storage q n t cs) h = (above-all q cs h.1, keys-ordered (suc depth) cs h.3)
