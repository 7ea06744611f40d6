-- Entries of the directory, 128 bytes each (MS-CFB 2.6).
use Rattle.std.specs.Prelude.{◌≡◌, ◌≢◌, ◌<◌, ◌≤◌, ◌+◌, ◌-◌, ◌*◌, ◌/◌, ◌⊎◌, ℕ, zero, suc, Bool, true, false, List, []}
use Rattle.std.specs.Prelude.{◌∷◌, ◌++◌, length, map, take, drop, slice_index, slice_index_or}
use Rattle.std.specs.List.{All, Contains, range_with_len}
use Rattle.cfb_bytes.specs.Bytes.{u16_at, u32_at, block}
use Rattle.cfb_bytes.specs.Marks.{AreDistinct, set_all}
use Rattle.cfb_names.specs.Names.{is_forbidden}
pub use Rattle.cfb_names.specs.Names.{root_name}
use Rattle.cfb_names.specs.declared.fault.DirFault.{DirFault}
use Rattle.cfb_names.specs.declared.fault.DirFault.TheVariants.{NameEmpty, NameTooLong, NameNotAscii, NameForbidden}
use Rattle.cfb_names.specs.declared.fault.DirFault.TheVariants.{BadEntry, TreeCycle, NoMemory}
use Rattle.cfb_entries.specs.declared.entries.Entry.{Entry}
use Rattle.cfb_entries.specs.declared.entries.EntryKind.{EntryKind}
use Rattle.cfb_entries.specs.declared.entries.EntryKind.TheVariants.{Storage, Stream, Root}

-- the value of a missing sibling or child
abbrev pub NO_STREAM : ℕ
NO_STREAM = 0xFFFFFFFF

abbrev pub entry_at : List ℕ → ℕ → List ℕ
entry_at directory id = block 128 directory (128 * id)

-- The fields of an entry.
abbrev pub name_length : List ℕ → ℕ
name_length entry = u16_at entry 64

abbrev pub kind : List ℕ → ℕ
kind entry = slice_index entry 66

abbrev pub left : List ℕ → ℕ
left entry = u32_at entry 68

abbrev pub right : List ℕ → ℕ
right entry = u32_at entry 72

abbrev pub child : List ℕ → ℕ
child entry = u32_at entry 76

abbrev pub class_of : List ℕ → List ℕ
class_of entry = take 16 (drop 80 entry)

abbrev pub state_of : List ℕ → ℕ
state_of entry = u32_at entry 96

abbrev pub first_of : List ℕ → ℕ
first_of entry = u32_at entry 116

abbrev pub size_of : List ℕ → ℕ
size_of entry = u32_at entry 120

-- the units of its name, before the closing one
abbrev pub name_of : List ℕ → List ℕ
name_of entry = map (λ k. u16_at entry (2 * k)) (range_with_len 0 (name_length entry / 2 - 1))

pub record IsNamed (entry : List ℕ) (name : List ℕ) : Type 0 where
  pub even : name_length entry ≡ 2 * length name + 2
  pub units : name ≡ name_of entry

-- Entries that left and right links reach from one, a parent before what it links to.
pub data AreLinked (directory : List ℕ) : ℕ → List ℕ → Type 0 where
  nobody : AreLinked directory NO_STREAM []
  around : (id : ℕ) (before after : List ℕ)
      → id ≢ NO_STREAM
      → 128 * id < length directory
      → AreLinked directory (left (entry_at directory id)) before
      → AreLinked directory (right (entry_at directory id)) after
      → AreLinked directory id (id ∷ (before ++ after))

-- The same of links of which those that leave the directory lead to nobody.
pub data AreInside (directory : List ℕ) : ℕ → List ℕ → Type 0 where
  nobody_inside : AreInside directory NO_STREAM []
  outside : (id : ℕ) → length directory ≤ 128 * id → AreInside directory id []
  around_inside : (id : ℕ) (before after : List ℕ)
      → id ≢ NO_STREAM
      → 128 * id < length directory
      → AreInside directory (left (entry_at directory id)) before
      → AreInside directory (right (entry_at directory id)) after
      → AreInside directory id (id ∷ (before ++ after))

-- A directory, and which entries were met.
pub record EntriesValue : Type 0 where
  pub directory : List ℕ
  pub used : List Bool

abbrev pub marked : EntriesValue → List ℕ → EntriesValue
marked e ids = record { directory = e.directory; used = set_all e.used ids }

abbrev pub IsFree : EntriesValue → ℕ → Type 0
IsFree e id = (128 * id < length e.directory) × (slice_index_or e.used id true ≡ false)

-- entries that were not met before, no two of them equal
pub record AreFree (e : EntriesValue) (ids : List ℕ) : Type 0 where
  pub free : All (IsFree e) ids
  pub once : AreDistinct ids

abbrev pub kind_number : EntryKind → ℕ
kind_number Storage = 1
kind_number Stream = 2
kind_number Root = 5

-- the name of an entry; the root's is not looked at
abbrev pub IsNameOf : ℕ → List ℕ → List ℕ → Type 0
IsNameOf zero entry name = name ≡ root_name
IsNameOf (suc n) entry name = IsNamed entry name

-- the kinds that an entry may have: entry 0 alone is the root
abbrev pub IsKindOf : ℕ → ℕ → Type 0
IsKindOf zero kind = kind ≡ 5
IsKindOf (suc n) kind = (kind ≡ 1) ⊎ (kind ≡ 2)

-- what an entry says
pub record IsEntry (directory : List ℕ) (id : ℕ) (e : Entry) : Type 0 where
  pub inside : 128 * id < length directory
  pub name : IsNameOf id (entry_at directory id) e.name
  pub kind_held : kind_number e.kind ≡ kind (entry_at directory id)
  pub allowed : IsKindOf id (kind (entry_at directory id))
  pub class : e.class ≡ class_of (entry_at directory id)
  pub state : e.state ≡ state_of (entry_at directory id)
  pub child_held : e.child ≡ child (entry_at directory id)
  pub first : e.first ≡ first_of (entry_at directory id)
  pub size : e.size ≡ size_of (entry_at directory id)

-- When a fault may be answered for an entry. No character is looked at of a name that is too long.
abbrev pub MayRefuseEntry : List ℕ → ℕ → DirFault → Type 0
MayRefuseEntry directory id BadEntry = (length directory ≤ 128 * id) ⊎ (IsKindOf id (kind (entry_at directory id)) → ⊥)
    ⊎ ((id ≢ 0) × ((k : ℕ) → name_length (entry_at directory id) ≢ 2 * k))
MayRefuseEntry directory id NameEmpty = (id ≢ 0) × (name_length (entry_at directory id) < 4)
MayRefuseEntry directory id NameTooLong = (id ≢ 0) × (64 < name_length (entry_at directory id))
MayRefuseEntry directory id NameNotAscii = (id ≢ 0)
    × ((name_length (entry_at directory id) ≤ 64)
    × ((c : ℕ) × Contains (name_of (entry_at directory id)) c × (127 < c)))
MayRefuseEntry directory id NameForbidden = (id ≢ 0)
    × ((name_length (entry_at directory id) ≤ 64)
    × ((c : ℕ) × Contains (name_of (entry_at directory id)) c × (is_forbidden c ≡ true)))
MayRefuseEntry directory id _ = ⊥

-- links reach this entry from one, by way of others, and all of these were met so
pub data Reaches (directory : List ℕ) : ℕ → ℕ → Type 0 where
  here : (id : ℕ) → Reaches directory id id
  by_left : (id to : ℕ) → 128 * id < length directory → id ≢ NO_STREAM
      → Reaches directory (left (entry_at directory id)) to → Reaches directory id to
  by_right : (id to : ℕ) → 128 * id < length directory → id ≢ NO_STREAM
      → Reaches directory (right (entry_at directory id)) to → Reaches directory id to

-- when a fault may be answered for what links reach from a top: they leave the directory, or no list of unmarked
-- entries, each met once, is what they reach inside it
abbrev pub MayRefuseLinked : EntriesValue → ℕ → DirFault → Type 0
MayRefuseLinked e top BadEntry = (id : ℕ) × Reaches e.directory top id × (id ≢ NO_STREAM)
    × (length e.directory ≤ 128 * id)
MayRefuseLinked e top TreeCycle = (ids : List ℕ) → AreInside e.directory top ids → AreFree e ids → ⊥
MayRefuseLinked e top _ = ⊥

-- unmarked entries are just those that links reach from the child of an entry
pub record HasChildren (e : EntriesValue) (id : ℕ) : Type 0 where
  pub inside : 128 * id < length e.directory
  pub ids : List ℕ
  pub linked : AreLinked e.directory (child (entry_at e.directory id)) ids
  pub free : AreFree e ids

-- When a fault may be answered for the children of an entry. Want of memory is told only where they are there.
abbrev pub MayRefuseChildren : EntriesValue → ℕ → DirFault → Type 0
MayRefuseChildren e id fault = (length e.directory ≤ 128 * id) × (fault ≡ BadEntry)
    ⊎ MayRefuseLinked e (child (entry_at e.directory id)) fault
    ⊎ HasChildren e id × (fault ≡ NoMemory)

abbrev pub MayRefuseLoad : List ℕ → DirFault → Type 0
MayRefuseLoad directory BadEntry = length directory < 128
MayRefuseLoad directory NoMemory = 128 ≤ length directory
MayRefuseLoad directory _ = ⊥
