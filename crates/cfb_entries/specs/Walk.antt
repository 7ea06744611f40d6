-- Why a walk over linked entries stops at one, how its marks are taken back, and why a name is refused.
use Rattle.std.specs.List.{Contains}
use Rattle.std.specs.Prelude.{◌≡◌, ◌≢◌, ◌<◌, ◌≤◌, ◌*◌, ℕ, Bool, true, false, List, [], ◌∷◌, length, slice_index_or}
use Rattle.std.specs.Prelude.{slice_set}
use Rattle.cfb_entries.specs.Entries.{EntriesValue, name_length, name_of}
use Rattle.cfb_names.specs.Names.{is_forbidden}
use Rattle.cfb_names.specs.declared.fault.DirFault.{DirFault}
use Rattle.cfb_names.specs.declared.fault.DirFault.TheVariants.{NameEmpty, NameTooLong, NameNotAscii, NameForbidden}
use Rattle.cfb_names.specs.declared.fault.DirFault.TheVariants.{BadEntry, TreeCycle}

-- an entry isn't in the directory, or it is there and has no mark that is off
abbrev pub IsTaken : EntriesValue → ℕ → DirFault → Type 0
IsTaken e id BadEntry = length e.directory ≤ 128 * id
IsTaken e id TreeCycle = (128 * id < length e.directory) × (slice_index_or e.used id true ≡ true)
IsTaken e id _ = ⊥

-- when a fault may be answered for the name of an entry
abbrev pub MayRefuseName : List ℕ → DirFault → Type 0
MayRefuseName entry BadEntry = (k : ℕ) → name_length entry ≢ 2 * k
MayRefuseName entry NameEmpty = name_length entry < 4
MayRefuseName entry NameTooLong = 64 < name_length entry
MayRefuseName entry NameNotAscii = (name_length entry ≤ 64) × ((c : ℕ) × Contains (name_of entry) c × (127 < c))
MayRefuseName entry NameForbidden = (name_length entry ≤ 64)
    × ((c : ℕ) × Contains (name_of entry) c × (is_forbidden c ≡ true))
MayRefuseName entry _ = ⊥

-- without marks, the last one taken back first
abbrev pub clear_all : List Bool → List ℕ → List Bool
clear_all used [] = used
clear_all used (n ∷ ns) = slice_set (clear_all used ns) n false

abbrev pub unmarked : EntriesValue → List ℕ → EntriesValue
unmarked e ids = record { directory = e.directory; used = clear_all e.used ids }
