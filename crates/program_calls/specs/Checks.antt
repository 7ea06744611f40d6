-- What the check of a file puts, and what it tells.
use Rattle.std.specs.Prelude.{◌≡◌, ◌≢◌, ◌⊎◌, ℕ, List, Option, IfSome}
use Rattle.cfb_entries.specs.Tree.{Tree}
use Rattle.cfb_file.specs.Denotes.{Denotes}
use Rattle.tell_checks.specs.Json.{sound_text, told_text}
use Rattle.tell_checks.specs.Spots.{IsHeaderTold, IsPlaceTold, IsSpotOf}
use Rattle.tell_checks.specs.declared.spot.Spot.{Spot}
use Rattle.tell_checks.specs.declared.telling.Form.{Form}
use Rattle.read_files.specs.Reads.{MayRefuseRead}
use Rattle.read_files.specs.declared.fault.ReadFault.{ReadFault}
use Rattle.read_files.specs.declared.fault.ReadFault.TheVariants.{NoMemory}
use Rattle.program_calls.specs.Calls.{IsTooBig}
use Rattle.program_calls.specs.Numbers.{read_number}

-- The file is refused for a fault of its own.
abbrev pub IsAtFault : List ℕ → ReadFault → Type 0
IsAtFault file fault = (fault ≢ NoMemory) × MayRefuseRead file fault

-- The text of a fault. Where it tells a place, the file has the fault there. Of a fault of the header it tells one, and
-- of each other place that is promised.
abbrev pub IsTold : List ℕ → Form → ReadFault → List ℕ → Type 0
IsTold file form fault bytes =
    (at : Option Spot) × IfSome at (IsSpotOf file fault) × IsHeaderTold file fault at × IsPlaceTold file fault at
    × (bytes ≡ told_text form fault at)

-- The file denotes a tree, and the text says so: no fault is told. Or it is at fault, and the text and the number tell
-- that.
abbrev pub IsChecked : List ℕ → Form → ℕ → List ℕ → Type 0
IsChecked file form told bytes =
    ((told ≡ 0) × (t : Tree) × ∥ Denotes file t ∥₁ × (bytes ≡ sound_text form))
    ⊎ ((fault : ReadFault) × (told ≡ read_number fault) × IsAtFault file fault × IsTold file form fault bytes)

-- There are more bytes than are taken; or no memory was left, and a fault is told only of a file that is at fault.
abbrev pub IsRefusedCheck : List ℕ → ℕ → ℕ → Type 0
IsRefusedCheck file told number =
    ((told ≡ 0) × IsTooBig file number)
    ⊎ ((number ≡ 2) × (told ≡ 0))
    ⊎ ((number ≡ 2) × (fault : ReadFault) × (told ≡ read_number fault) × IsAtFault file fault)
