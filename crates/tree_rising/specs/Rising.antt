-- Trees whose streams are made in name order.
use Rattle.std.specs.Prelude.{◌≡◌, ℕ, Bool, true, false, List, [], ◌∷◌, Result, Ok, Err}
use Rattle.std.specs.Map.{keys_of}
use Rattle.std.specs.declared.alloc.AllocError.{AllocError}
use Rattle.cfb_names.specs.Names.{key}
use Rattle.tree_rising.specs.Below.{AreBelow}
use Rattle.tree_rising.specs.Row.{entries_of}
use Rattle.cfb_entries.specs.Tree.{tree}
use Rattle.tree_storage.specs.Kept.{Kept, added}
use Rattle.tree_storage.specs.View.{children}
use Rattle.tree_rising.specs.declared.rising.Rising.{Rising}

-- the tree, outside transactions
abbrev pub rising : Rising → Kept
rising r = record { now = tree r.class r.state (children (entries_of r.streams)); saved = [] }

-- What a call does that is to make a stream behind all others, and says whether it did: it does where its name comes
-- behind theirs, and else, or where no memory is left, nothing changes.
abbrev pub MakesLast : Result Bool AllocError → List ℕ → List ℕ → Rising → Rising → Type 0
MakesLast (Ok true) name new old now = AreBelow (key name) (keys_of (entries_of old.streams))
    × (added (name ∷ []) new (rising old) ≡ Ok (rising now))
MakesLast (Ok false) name new old now = (AreBelow (key name) (keys_of (entries_of old.streams)) → ⊥)
    × (rising now ≡ rising old)
MakesLast (Err fault) name new old now = rising now ≡ rising old
