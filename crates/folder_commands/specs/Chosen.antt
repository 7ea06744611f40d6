-- What is chosen of a tree by paths.
use Rattle.std.specs.Prelude.{◌≡◌, ℕ, List, [], ◌∷◌, Option, Some, None, Result, Ok, Err, IsOk, cond, slice_get}
use Rattle.std.specs.List.{AllByRecursion, flat_map}
use Rattle.cfb_names.specs.Names.{key, key_eq}
use Rattle.cfb_entries.specs.Tree.{Tree, Children, tree, none, stream, storage}
use Rattle.tree_storage.specs.Change.{Seen, bytes, inner, look}
use Rattle.tree_storage.specs.declared.fault.TreeFault.{TreeFault}
use Rattle.folder_commands.specs.Paths.{joined}
use Rattle.folder_commands.specs.Plan.{Entry, file, folder_plan}

-- What is left of a path below the child under a key: nothing where the child isn't on it; of one that ended above the
-- child, which stands below it then, the empty path.
abbrev pub step : List ℕ → List (List ℕ) → Option (List (List ℕ))
step k [] = Some []
step k (name ∷ rest) = cond (key_eq (key name) k) (Some rest) None

abbrev pub one : Option (List (List ℕ)) → List (List (List ℕ))
one None = []
one (Some path) = path ∷ []

-- what is left of paths
abbrev pub left_of : List ℕ → List (List (List ℕ)) → List (List (List ℕ))
left_of k paths = flat_map (λ path. one (step k path)) paths

-- the one where there are paths, the other where there are none
abbrev pub where_any : {A : Type 0} → List (List (List ℕ)) → A → A → A
where_any [] a b = b
where_any (path ∷ paths) a b = a

-- A tree cut to what is on or below the paths: a child stays where something is left of them below it.
abbrev mutual
  pub chosen : List (List (List ℕ)) → Tree → Tree
  chosen paths (tree class state cs) = tree class state (chosen_of paths cs)

  pub chosen_of : List (List (List ℕ)) → Children → Children
  chosen_of paths none = none
  chosen_of paths (stream k n b cs) = where_any (left_of k paths) (stream k n b (chosen_of paths cs))
      (chosen_of paths cs)
  chosen_of paths (storage k n t cs) = where_any (left_of k paths)
      (storage k n (chosen (left_of k paths) t) (chosen_of paths cs)) (chosen_of paths cs)

-- what is asked for of a tree: all of it where no path is given
abbrev pub asked : List (List (List ℕ)) → Tree → Tree
asked paths t = where_any paths (chosen paths t) t

-- whether something stands at a path, given what does
abbrev pub standing : Result Seen TreeFault → Result (Unit {0}) TreeFault
standing (Ok s) = Ok tt
standing (Err fault) = Err fault

-- something stands at each of the paths
abbrev pub AllStand : List (List (List ℕ)) → Tree → Type 0
AllStand paths t = AllByRecursion (λ path. IsOk (look path (inner t))) paths

-- nothing stands at the path of this number
abbrev pub IsMissing : List (List (List ℕ)) → Tree → ℕ → TreeFault → Type 0
IsMissing paths t n fault = (path : List (List ℕ)) × (slice_get paths n ≡ Some path) × (look path (inner t) ≡ Err fault)

-- what is made in the folder of a path of a child that something is left for below it
abbrev pub picked_plan : List ℕ → List (List (List ℕ)) → List ℕ × Seen → List Entry
picked_plan path left (n, bytes b) = file (joined path n) b ∷ []
picked_plan path left (n, inner t) = folder_plan (joined path n) (chosen left t)

-- and of any child
abbrev pub chosen_plan : List ℕ → List (List (List ℕ)) → List ℕ × Seen → List Entry
chosen_plan path left c = where_any left (picked_plan path left c) []
