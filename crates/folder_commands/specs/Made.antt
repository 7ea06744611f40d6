-- What was made in a folder, where that is known.
use Rattle.std.specs.Prelude.{◌≡◌, ◌++◌, ⊤, ℕ, List, Option, Some, None, codes}
use Rattle.folder_commands.specs.Plan.{Entry}
use Rattle.folder_commands.specs.declared.folder.FolderFault.{FolderFault}
use Rattle.folder_commands.specs.declared.folder.FolderFault.TheVariants.{Exists, Unwritable, NoMemory, Unreadable}

-- known entries grow by more
abbrev pub Adds : Option (List Entry) → Option (List Entry) → List Entry → Type 0
Adds None new more = ⊤
Adds (Some made) None more = ⊥
Adds (Some made) (Some now) more = now ≡ made ++ more

abbrev pub folder_fault_name : FolderFault → List ℕ
folder_fault_name Exists = codes "Exists"
folder_fault_name Unwritable = codes "Unwritable"
folder_fault_name NoMemory = codes "NoMemory"
folder_fault_name Unreadable = codes "Unreadable"
