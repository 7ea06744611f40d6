-- What the changes of a tree do to its paths, and what a transaction gives back.
use Rattle.std.specs.Prelude.{ℕ, ◌≡◌, ◌≤◌, ◌+◌, ◌++◌, length, List, [], ◌∷◌, Ok, Err, true, false, Bool, ◌⊎◌}
use Rattle.cfb_names.specs.Names.{IsName, key, key_eq}
use Rattle.cfb_entries.specs.Tree.{tree, none}
use Rattle.tree_storage.specs.Change.{Seen, bytes, inner, change, look}
use Rattle.cfb_entries.specs.Whole.{IsWhole}
use Rattle.tree_storage.specs.declared.fault.TreeFault.TheVariants.{NotFound}
use Rattle.tree_storage.specs.declared.storage.Edit.{Edit}
use Rattle.tree_storage.specs.declared.storage.Edit.TheVariants.{Put, Add, Make, Remove, Rename}

-- two paths that part, neither leading to the other
abbrev pub Apart : List (List ℕ) → List (List ℕ) → Type 0
Apart [] q = ⊥
Apart (n ∷ p) [] = ⊥
Apart (n ∷ p) (m ∷ q) = (key_eq (key m) (key n) ≡ false) ⊎ Apart p q

-- a path with another last name
abbrev pub beside : List (List ℕ) → List ℕ → List (List ℕ)
beside [] new = []
beside (name ∷ []) new = new ∷ []
beside (name ∷ next ∷ rest) new = name ∷ beside (next ∷ rest) new

-- where what a change writes stands afterwards
abbrev pub target : Edit → List (List ℕ) → List (List ℕ)
target (Put new) path = path
target (Add new) path = path
target (Make class state fits) path = path
target Remove path = path
target (Rename new) path = beside path new

-- a change leaves all paths that part from its own, and from the new one of a rename
abbrev pub Stays : Type 0
Stays = (e : Edit) (path q : List (List ℕ)) (s t : Seen) → change e path s ≡ Ok t → Apart path q
    → Apart (target e path) q → look q t ≡ look q s

-- what was put is there
abbrev pub PutIsThere : Type 0
PutIsThere = (path : List (List ℕ)) (new : List ℕ) (s t : Seen) → change (Put new) path s ≡ Ok t
    → look path t ≡ Ok (bytes new)

-- a stream that was made where nothing stood is there
abbrev pub AddedIsThere : Type 0
AddedIsThere = (path : List (List ℕ)) (new : List ℕ) (s t : Seen) → change (Add new) path s ≡ Ok t
    → look path t ≡ Ok (bytes new)

-- what was made is there
abbrev pub MadeIsThere : Type 0
MadeIsThere = (path : List (List ℕ)) (class : List ℕ) (state : ℕ) (fits : Bool) (s t : Seen)
    → change (Make class state fits) path s ≡ Ok t → look path t ≡ Ok (inner (tree class state none))

-- what stood at the old path of a rename, and below it, stands at the new one
abbrev pub RenamedIsThere : Type 0
RenamedIsThere = (path below : List (List ℕ)) (new : List ℕ) (s t : Seen)
    → change (Rename new) path s ≡ Ok t → look (beside path new ++ below) t ≡ look (path ++ below) s

-- a removal frees its path, and a rename to another name its old one
abbrev pub Frees : Edit → List (List ℕ) → Type 0
Frees (Put new) path = ⊥
Frees (Add new) path = ⊥
Frees (Make class state fits) path = ⊥
Frees Remove path = Unit {0}
Frees (Rename new) path = Apart (beside path new) path

abbrev pub IsGone : Type 0
IsGone = (e : Edit) (path : List (List ℕ)) (s t : Seen) (depth : ℕ) → Frees e path → IsWhole depth s
    → change e path s ≡ Ok t → look path t ≡ Err NotFound

-- what a change names anew has a name that a directory takes
abbrev pub IsNewName : Edit → List ℕ → Type 0
IsNewName (Put new) name = IsName name
IsNewName (Add new) name = IsName name
IsNewName (Make class state fits) name = IsName name
IsNewName Remove name = Unit {0}
IsNewName (Rename new) name = IsName new

abbrev pub LeavesNames : Edit → List (List ℕ) → Type 0
LeavesNames e [] = Unit {0}
LeavesNames e (name ∷ []) = IsNewName e name
LeavesNames e (name ∷ next ∷ rest) = LeavesNames e (next ∷ rest)

-- a storage is made only where so many levels below are within the depth
abbrev pub FitsIn : Edit → ℕ → ℕ → Type 0
FitsIn (Put new) below depth = Unit {0}
FitsIn (Add new) below depth = Unit {0}
FitsIn (Make class state fits) below depth = fits ≡ true → below ≤ depth
FitsIn Remove below depth = Unit {0}
FitsIn (Rename new) below depth = Unit {0}

-- a change leaves a whole tree whole
abbrev pub ChangeKeeps : Type 0
ChangeKeeps = (e : Edit) (path : List (List ℕ)) (s t : Seen) (depth : ℕ)
    → LeavesNames e path → FitsIn e (length path + 1) depth → IsWhole depth s → change e path s ≡ Ok t → IsWhole depth t
