-- What a transaction gives back.
use Rattle.std.specs.Prelude.{ℕ, ◌≡◌, List, Ok}
use Rattle.tree_storage.specs.Kept.{Kept, changing, beginning, committing, reverting}
use Rattle.tree_storage.specs.declared.storage.Edit.{Edit}

-- calls from one state to another, each transaction that they begin being ended by them
pub data Within : Kept → Kept → Type 0 where
  nothing : (k : Kept) → Within k k
  changes : (e : Edit) (path : List (List ℕ)) (k m last : Kept) → changing e path k ≡ Ok m → Within m last
      → Within k last
  commits : (k first end m last : Kept) → beginning k ≡ Ok first → Within first end → committing end ≡ Ok m
      → Within m last → Within k last
  reverts : (k first end m last : Kept) → beginning k ≡ Ok first → Within first end → reverting end ≡ Ok m
      → Within m last → Within k last

-- a revert gives back what the matching begin saw
abbrev pub RevertGivesBack : Type 0
RevertGivesBack = (k first end last : Kept) → beginning k ≡ Ok first → Within first end → reverting end ≡ Ok last
    → last ≡ k
