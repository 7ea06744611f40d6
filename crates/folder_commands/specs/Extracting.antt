-- What is made of a file in a folder, and where that stops.
use Rattle.std.specs.Prelude.{◌≡◌, ◌<◌, ℕ, List, Option, Some, length, slice_get, take}
use Rattle.cfb_entries.specs.Tree.{Tree}
use Rattle.cfb_file.specs.Denotes.{Denotes}
use Rattle.text_io.specs.Input.{MayRefuseInput}
use Rattle.read_files.specs.Reads.{MayRefuseRead}
use Rattle.folder_commands.specs.Plan.{Entry, plan}
use Rattle.write_cleaned.specs.declared.moving_fault.SourceFault.{SourceFault}
use Rattle.write_cleaned.specs.declared.moving_fault.SourceFault.TheVariants as source
use Rattle.folder_commands.specs.Chosen.{AllStand, IsMissing, asked}
use Rattle.folder_commands.specs.Made.{Adds}
use Rattle.folder_commands.specs.declared.fault.ExtractFault.{ExtractFault}
use Rattle.folder_commands.specs.declared.fault.ExtractFault.TheVariants.{Input, Read, NoMemory, Missing, Cut}
use Rattle.folder_commands.specs.declared.fault.ExtractFault.TheVariants.{Entry as InFolder}
use Rattle.folder_commands.specs.declared.folder.FolderFault.{FolderFault}
use Rattle.folder_commands.specs.declared.folder.FolderFault.TheVariants as why

-- all of what the paths ask for of the tree that the file denotes was made, so many folders and files; something stands
-- at each path
pub record Extracts (paths : List (List (List ℕ))) (file : List ℕ) (old new : Option (List Entry)) (count : ℕ) :
    Type 0 where
  pub t : Tree
  pub denotes : ∥ Denotes file t ∥₁
  pub there : AllStand paths t
  pub made : Adds old new (plan (asked paths t))
  pub counted : count ≡ length (plan (asked paths t))

-- so many of them were made, and not the next, which has this path
pub record IsCutShort (paths : List (List (List ℕ))) (file : List ℕ) (old new : Option (List Entry)) (count : ℕ)
    (path : List ℕ) : Type 0 where
  pub t : Tree
  pub denotes : ∥ Denotes file t ∥₁
  pub made : Adds old new (take count (plan (asked paths t)))
  pub next : Entry
  pub stands : slice_get (plan (asked paths t)) count ≡ Some next
  pub at : path ≡ next.path

-- when a file may be stopped at
abbrev pub MayStop : List (List (List ℕ)) → List ℕ → Option (List Entry) → Option (List Entry) → ℕ → ExtractFault
    → Type 0
MayStop paths file old new count (Input fault) = MayRefuseInput file fault
MayStop paths file old new count (Read fault) = MayRefuseRead file fault
MayStop paths file old new count (Missing n fault) = (t : Tree) × ∥ Denotes file t ∥₁ × IsMissing paths t n fault
MayStop paths file old new count NoMemory = (t : Tree) × ∥ Denotes file t ∥₁
MayStop paths file old new count (InFolder path fault) = IsCutShort paths file old new count path
MayStop paths file old new count Cut = (path : List ℕ) × IsCutShort paths file old new count path

-- when what is asked for of a tree isn't planned
abbrev pub MayRefusePlan : List (List (List ℕ)) → Tree → ExtractFault → Type 0
MayRefusePlan paths t (Input fault) = ⊥
MayRefusePlan paths t (Read fault) = ⊥
MayRefusePlan paths t (Missing n fault) = IsMissing paths t n fault
MayRefusePlan paths t NoMemory = Unit {0}
MayRefusePlan paths t (InFolder path fault) = ⊥
MayRefusePlan paths t Cut = ⊥

-- a fault that is met once making has begun: the folder refused something, or the file isn't read further
abbrev pub IsLate : ExtractFault → Type 0
IsLate (Input fault) = ⊥
IsLate (Read fault) = ⊥
IsLate (Missing n fault) = ⊥
IsLate NoMemory = ⊥
IsLate (InFolder path fault) = Unit {0}
IsLate Cut = Unit {0}

-- a fault of a file that is opened
abbrev pub of_source_fault : SourceFault → ExtractFault
of_source_fault (source.Input fault) = Input fault
of_source_fault (source.Read fault) = Read fault

-- a fault at what has this path in a folder
abbrev pub of_folder_fault : List ℕ → FolderFault → ExtractFault
of_folder_fault path why.Exists = InFolder path why.Exists
of_folder_fault path why.Unwritable = InFolder path why.Unwritable
of_folder_fault path why.NoMemory = InFolder path why.NoMemory
of_folder_fault path why.Unreadable = Cut
