-- What is packed of a folder.
use Rattle.std.specs.Prelude.{◌≡◌, ◌++◌, ℕ, List, [], ◌∷◌, Option, Result, Ok, Err, IsOk, length}
use Rattle.std.specs.Io.KnownBytes.{Appends}
use Rattle.cfb_entries.specs.Tree.{tree, none}
use Rattle.tree_storage.specs.Change.{on_ok}
use Rattle.tree_storage.specs.Kept.{Kept, added, made}
use Rattle.tree_storage.specs.declared.fault.TreeFault.{TreeFault}
use Rattle.tree_storage.specs.declared.fault.TreeFault.TheVariants.{NoMemory}
use Rattle.cfb_file.specs.Denotes.{Denotes}
use Rattle.cfb_file.specs.Refusals.{writable, Refuses}
use Rattle.write_files.specs.Laid.{IsLaidOut}
use Rattle.folder_commands.specs.declared.plan.Content.{Content}
use Rattle.folder_commands.specs.declared.plan.Content.TheVariants.{Folder, File}
use Rattle.folder_commands.specs.declared.packing.Found.{Found}
use Rattle.folder_commands.specs.declared.packing.PackFault.{PackFault}
use Rattle.folder_commands.specs.declared.packing.PackFault.TheVariants.{Tree, Write, Unwritable}

-- a root without children
abbrev pub root : List ℕ → ℕ → Kept
root class state = record { now = tree class state none; saved = [] }

-- a tree with what was found at a path
abbrev pub put_content : List (List ℕ) → Content → Kept → Result Kept TreeFault
put_content path (Folder class state) k = made path class state k
put_content path (File bytes) k = added path bytes k

abbrev pub put_found : Found → Kept → Result Kept TreeFault
put_found item k = put_content item.path.items item.content k

-- and with all that was found, one after another
abbrev pub packed : List Found → Kept → Result Kept TreeFault
packed [] k = Ok k
packed (item ∷ items) k = on_ok (packed items) (put_found item k)

-- a file of the tree of what was found was written, of so many bytes, and nothing else stands in it
pub record Packs (class : List ℕ) (state : ℕ) (found : List Found) (old new : Option (List ℕ)) (count : ℕ) : Type
    0 where
  pub k : Kept
  pub holds : packed found (root class state) ≡ Ok k
  pub file : List ℕ
  pub denotes : ∥ Denotes file k.now ∥₁
  pub laid_out : IsLaidOut k.now file
  pub written : Appends old new file
  pub counted : count ≡ length file

-- a tree doesn't take what was found, or lacks memory for it
abbrev pub RefusesFound : Found → Kept → TreeFault → Type 0
RefusesFound item k NoMemory = IsOk (put_found item k)
RefusesFound item k fault = put_found item k ≡ Err fault

-- the one of this path is refused behind those before it
pub record IsRefused (found : List Found) (k : Kept) (path : List (List ℕ)) (fault : TreeFault) : Type 0 where
  pub before : List Found
  pub item : Found
  pub behind : List Found
  pub all : found ≡ before ++ item ∷ behind
  pub at : path ≡ item.path.items
  pub next : Kept
  pub holds : packed before k ≡ Ok next
  pub told : RefusesFound item next fault

-- when what was found may be refused
abbrev pub MayRefusePack : List ℕ → ℕ → List Found → PackFault → Type 0
MayRefusePack class state found (Tree path fault) = IsRefused found (root class state) path.items fault
MayRefusePack class state found (Write fault) = (k : Kept) × (packed found (root class state) ≡ Ok k)
    × Refuses (writable k.now) fault
MayRefusePack class state found Unwritable = (k : Kept) × (packed found (root class state) ≡ Ok k)
