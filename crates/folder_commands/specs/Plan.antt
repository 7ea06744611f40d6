-- What is made of a tree in a folder.
use Rattle.std.specs.Prelude.{◌++◌, ℕ, List, [], ◌∷◌}
use Rattle.cfb_entries.specs.Tree.{Tree, Children, tree, none, stream, storage}
use Rattle.tree_storage.specs.Change.{Seen, bytes, inner}
use Rattle.folder_commands.specs.Paths.{joined}
use Rattle.folder_commands.specs.declared.plan.Content.{Content}
use Rattle.folder_commands.specs.declared.plan.Content.TheVariants.{Folder, File}

-- what stands at a path of a folder
pub record Entry : Type 0 where
  pub path : List ℕ
  pub content : Content

abbrev pub folder : List ℕ → List ℕ → ℕ → Entry
folder path class state = record { path = path; content = Folder class state }

abbrev pub file : List ℕ → List ℕ → Entry
file path content = record { path = path; content = File content }

-- A folder for each storage and a file for each stream, depth first in name order, the storage itself first.
abbrev mutual
  pub folder_plan : List ℕ → Tree → List Entry
  folder_plan path (tree class state cs) = folder path class state ∷ below_plan path cs

  pub below_plan : List ℕ → Children → List Entry
  below_plan path none = []
  below_plan path (stream k n b cs) = file (joined path n) b ∷ below_plan path cs
  below_plan path (storage k n t cs) = folder_plan (joined path n) t ++ below_plan path cs

-- what is made of a tree
abbrev pub plan : Tree → List Entry
plan t = folder_plan [] t

-- what is made of one child
abbrev pub child_plan : List ℕ → List ℕ × Seen → List Entry
child_plan path (n, bytes b) = file (joined path n) b ∷ []
child_plan path (n, inner t) = folder_plan (joined path n) t
