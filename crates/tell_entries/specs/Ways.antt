-- Ways from the root of a directory to its entries, and what is wrong with an entry.
use Rattle.std.specs.Prelude.{◌≡◌, ◌≢◌, ◌⊎◌, ◌<◌, ◌-◌, ◌*◌, ℕ, suc, true, List, ◌∷◌, length, slice_index}
use Rattle.std.specs.Prelude.{slice_index_or}
use Rattle.std.specs.List.{All, Contains}
use Rattle.cfb_chains.specs.Chain.{AreDistinct}
use Rattle.cfb_names.specs.declared.fault.DirFault.{DirFault}
use Rattle.cfb_names.specs.declared.fault.DirFault.TheVariants as directory
use Rattle.cfb_entries.specs.Entries.{AreInside, EntriesValue, MayRefuseEntry, child, entry_at, kind}
use Rattle.cfb_faults.specs.Faults.{DEEPEST, Descends, IsBelow, IsChild, IsDirectory, IsDirectoryAtFault, IsStorage}
use Rattle.cfb_faults.specs.Faults.{LeadsOutside, MayBeChild, key_at}
use Rattle.tell_entries.specs.declared.place.EntryPlace.{EntryPlace}
use Rattle.tell_entries.specs.declared.place.EntryPlace.TheVariants as place
use Rattle.tell_entries.specs.declared.directory.Directory.{Directory}
use Rattle.tell_entries.specs.declared.looking.Looked.{Looked}
use Rattle.tell_entries.specs.declared.looking.Looked.TheVariants as looked

-- the entry to which a way leads: the last one on it, or the root where none is
abbrev pub end_of : List ℕ → ℕ
end_of way = slice_index way (length way - 1)

-- Entries one after another from the root, each a child of the one before, and all different.
pub record IsWay (dir way : List ℕ) : Type 0 where
  pub leads : Descends dir 0 way (end_of way)
  pub once : AreDistinct (0 ∷ way)

-- What is wrong with the storage to which a way leads, as with any directory that is at fault.
abbrev pub IsStorageAtFault : List ℕ → List ℕ → DirFault → Type 0
IsStorageAtFault dir way directory.BadEntry = LeadsOutside dir (end_of way)
IsStorageAtFault dir way directory.TooNested = (length way ≡ suc DEEPEST) × (kind (entry_at dir (end_of way)) ≡ 1)
IsStorageAtFault dir way directory.TreeCycle = IsStorage dir (end_of way)
    × ((ids : List ℕ) → AreInside dir (child (entry_at dir (end_of way))) ids → AreDistinct ids
    → All (MayBeChild dir (end_of way)) ids → ⊥)
IsStorageAtFault dir way _ = ⊥

-- the directory of a file, with the sectors of its chain
abbrev pub IsDirectoryOf : List ℕ → Directory → Type 0
IsDirectoryOf file d = (is : IsDirectory file d.bytes.items) × (is.sectors ≡ d.sectors.items)

-- What is wrong with a directory, with the place at which it is.
abbrev pub IsEntryAtFault : List ℕ → DirFault → EntryPlace → Type 0
IsEntryAtFault dir fault place.Nowhere = (fault ≡ directory.BadEntry) × (length dir < 128)
IsEntryAtFault dir fault (place.Entry way) = IsWay dir way.items
    × (MayRefuseEntry dir (end_of way.items) fault ⊎ IsStorageAtFault dir way.items fault)
IsEntryAtFault dir fault (place.Twins way m n) = (fault ≡ directory.DuplicateName) × IsWay dir way.items
    × IsChild dir (end_of way.items) m × IsChild dir (end_of way.items) n
    × (m ≢ n) × (key_at dir m ≡ key_at dir n)

-- the same of a file
abbrev pub IsFaultOfEntry : List ℕ → DirFault → EntryPlace → Type 0
IsFaultOfEntry file fault p = (dir : List ℕ) × IsDirectory file dir × IsEntryAtFault dir fault p

-- the faults of the links between entries, of which a search may miss the place
abbrev pub IsOfLinks : DirFault → Type 0
IsOfLinks directory.DuplicateName = Unit {0}
IsOfLinks directory.TreeCycle = Unit {0}
IsOfLinks directory.TooNested = Unit {0}
IsOfLinks _ = ⊥

-- no place of a file's directory has the fault
abbrev pub IsNoEntry : List ℕ → DirFault → Type 0
IsNoEntry file fault = (where_it_is : EntryPlace) → IsFaultOfEntry file fault where_it_is → ⊥

-- What looking at the entry of a way finds: the fault, or the children of a storage.
abbrev pub IsLooked : List ℕ → List ℕ → DirFault → Looked → Type 0
IsLooked dir way fault (looked.AtFault p) = IsEntryAtFault dir fault p
IsLooked dir way fault (looked.Children ids) = All (IsChild dir (end_of way)) ids.items
IsLooked dir way fault looked.Nothing = Unit {0}

-- A child of a storage below the root that was opened.
pub record IsChildOfOpened (dir opened : List ℕ) (id : ℕ) : Type 0 where
  pub parent : ℕ
  pub was_opened : Contains opened parent
  pub levels : ℕ
  pub below : IsBelow dir levels parent
  pub child_of : IsChild dir parent id

-- The marked entries of a directory are the root, and children of storages that were opened.
pub record IsMet (dir : List ℕ) (e : EntriesValue) (opened : List ℕ) : Type 0 where
  pub same : e.directory ≡ dir
  pub marks : (id : ℕ) → 128 * id < length dir → slice_index_or e.used id true ≡ true → (id ≡ 0)
      ⊎ IsChildOfOpened dir opened id

-- ---- the law
-- where a place is told, the directory is at fault
abbrev pub EntryIsAtFault : Type 0
EntryIsAtFault = (file : List ℕ) (fault : DirFault) (where_it_is : EntryPlace)
    → IsFaultOfEntry file fault where_it_is → IsDirectoryAtFault file fault
