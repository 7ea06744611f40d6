-- The tree that changes make of another.
use Rattle.std.specs.Prelude.{◌≡◌, ◌++◌, ℕ, List, [], ◌∷◌, Result, Ok, Err, IsOk, replicate}
use Rattle.tree_storage.specs.Kept.{Kept, put, made, removed, renamed}
use Rattle.cfb_names.specs.declared.fault.DirFault.TheVariants.{NameForbidden}
use Rattle.tree_descriptions.specs.Description.{Refuses, at_line, at_path, of_tree, then_by}
use Rattle.tree_descriptions.specs.declared.fault.LineFault.{LineFault}
use Rattle.tree_descriptions.specs.declared.fault.LineFault.TheVariants.{Name, NoMemory}
use Rattle.tree_edits.specs.declared.change.Change.{Change}
use Rattle.tree_edits.specs.declared.change.Change.TheVariants.{Put, Fill, Storage, Remove, Rename, Mark, MarkRoot}
pub use Rattle.tree_edits.specs.Marks.{outside}
use Rattle.tree_edits.specs.Marks.{marked}

-- a change by a name alone: what has more names has a slash, which no name has
abbrev pub with_name : List (List ℕ) → (List ℕ → Result Kept LineFault) → Result Kept LineFault
with_name (name ∷ []) change = change name
with_name names change = Err (Name NameForbidden)

-- what a change makes of a tree
abbrev pub changed : Change → Kept → Result Kept LineFault
changed (Put path bytes) k = at_path path (λ names. of_tree (put names bytes k))
changed (Fill path count byte) k = at_path path (λ names. of_tree (put names (replicate count byte) k))
changed (Storage path class) k = at_path path (λ names. of_tree (made names class 0 k))
changed (Remove path) k = at_path path (λ names. of_tree (removed names k))
changed (Rename path name) k =
    at_path path (λ names. at_path name (λ new. with_name new (λ n. of_tree (renamed names n k))))
changed (Mark path mark) k = at_path path (λ names. of_tree (marked mark names k))
changed (MarkRoot mark) k = of_tree (marked mark [] k)

-- what changes make of it, one after another, up to the first that is refused, with the number of its line
abbrev pub edited : List (ℕ × Change) → Kept → Result Kept (ℕ × LineFault)
edited [] k = Ok k
edited ((n, change) ∷ others) k = then_by (at_line n (changed change k)) (edited others)

-- Memory may have run out at the change of line n: it and all before it can be made.
pub record MayLackRoom (changes : List (ℕ × Change)) (k : Kept) (n : ℕ) : Type 0 where
  pub before : List (ℕ × Change)
  pub change : Change
  pub behind : List (ℕ × Change)
  pub all : changes ≡ before ++ (n, change) ∷ behind
  pub made : IsOk (edited (before ++ (n, change) ∷ []) k)

-- when changes may be refused
abbrev pub RefusesEdit : List (ℕ × Change) → Kept → ℕ × LineFault → Type 0
RefusesEdit changes k (n, NoMemory) = MayLackRoom changes k n
RefusesEdit changes k (n, fault) = edited changes k ≡ Err (n, fault)

-- what a call does that is to make a tree of another, given what it is told to make
abbrev pub Does : Result (Unit {0}) LineFault → Result Kept LineFault → Kept → Type 0
Does (Ok u) told k = told ≡ Ok k
Does (Err fault) told k = Refuses told fault
