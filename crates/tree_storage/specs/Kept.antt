-- Trees with transactions, and the public calls.
use Rattle.std.specs.Prelude.{ℕ, List, [], ◌∷◌, Result, Ok, Err, cond, nat_le, length, map, reverse}
use Rattle.cfb_entries.specs.Tree.{Tree}
use Rattle.tree_storage.specs.Change.{Seen, bytes, inner, change, map_ok}
use Rattle.tree_storage.specs.View.{view}
use Rattle.tree_storage.specs.declared.fault.TreeFault.{TreeFault}
use Rattle.tree_storage.specs.declared.fault.TreeFault.TheVariants.{NoTransaction, TooDeep}
use Rattle.tree_storage.specs.declared.storage.Edit.{Edit}
use Rattle.tree_storage.specs.declared.storage.Edit.TheVariants.{Put, Add, Make, Remove, Rename}
use Rattle.tree_storage.specs.declared.tree.Tree as declared

-- the tree now, and those that the open transactions began with, the newest first
pub record Kept : Type 0 where
  pub now : Tree
  pub saved : List Tree

abbrev pub kept : declared.Tree → Kept
kept t = record { now = view t.root; saved = reverse (map view t.saved.items) }

-- the root after a change, which leaves it a storage
abbrev pub tree_of : Seen → Tree → Tree
tree_of (bytes b) t = t
tree_of (inner t) old = t

-- a change of the tree now
abbrev pub changing : Edit → List (List ℕ) → Kept → Result Kept TreeFault
changing e path k = map_ok (λ s. record { now = tree_of s k.now; saved = k.saved }) (change e path (inner k.now))

abbrev pub put : List (List ℕ) → List ℕ → Kept → Result Kept TreeFault
put path new k = changing (Put new) path k

abbrev pub added : List (List ℕ) → List ℕ → Kept → Result Kept TreeFault
added path new k = changing (Add new) path k

abbrev pub made : List (List ℕ) → List ℕ → ℕ → Kept → Result Kept TreeFault
made path class state k = changing (Make class state (nat_le (length path) 32)) path k

abbrev pub removed : List (List ℕ) → Kept → Result Kept TreeFault
removed path k = changing Remove path k

abbrev pub renamed : List (List ℕ) → List ℕ → Kept → Result Kept TreeFault
renamed path new k = changing (Rename new) path k

-- transactions
abbrev pub beginning : Kept → Result Kept TreeFault
beginning k = cond (nat_le 8 (length k.saved)) (Err TooDeep) (Ok (record { now = k.now; saved = k.now ∷ k.saved }))

abbrev pub committed : Tree → List Tree → Result Kept TreeFault
committed now [] = Err NoTransaction
committed now (t ∷ ts) = Ok (record { now = now; saved = ts })

abbrev pub committing : Kept → Result Kept TreeFault
committing k = committed k.now k.saved

abbrev pub reverted : List Tree → Result Kept TreeFault
reverted [] = Err NoTransaction
reverted (t ∷ ts) = Ok (record { now = t; saved = ts })

abbrev pub reverting : Kept → Result Kept TreeFault
reverting k = reverted k.saved
