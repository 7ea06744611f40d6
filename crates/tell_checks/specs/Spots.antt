-- Where a file is at fault, with the path of the entry and the byte of the file.
use Rattle.std.specs.Prelude.{◌≡◌, ◌≢◌, ◌⊎◌, ◌<◌, ◌≤◌, ◌+◌, ◌*◌, ◌/◌, ◌%◌, ◌++◌, ℕ, Bool, true, false, List, [], ◌∷◌}
use Rattle.std.specs.Prelude.{Option}
use Rattle.std.specs.Prelude.{Some, None, IfNone, IfSome, Err, drop, length, option_map, slice_index, string_bytes}
use Rattle.std.specs.Prelude.{take}
use Rattle.cfb_header.specs.Bytes.{u32_at}
use Rattle.cfb_header.specs.Header.{IsHeader, first_mini_fat, header_read, listed}
use Rattle.cfb_header.specs.declared.fault.ChainFault.{ChainFault}
use Rattle.cfb_header.specs.declared.fault.ChainFault.TheVariants as chain_fault
use Rattle.cfb_chains.specs.Chain.{IsChain}
use Rattle.cfb_chains.specs.Fat.{sectors_of}
use Rattle.cfb_entries.specs.Entries.{IsNamed, entry_at}
use Rattle.text_words.specs.Spelled.{name_text}
use Rattle.cfb_faults.specs.Faults.{IsDirectory}
use Rattle.tell_faults.specs.Places.{IsFaultAt}
use Rattle.tell_chains.specs.Streams.{IsFaultOfStream}
use Rattle.tell_entries.specs.Ways.{IsFaultOfEntry, IsOfLinks, end_of}
use Rattle.tell_faults.specs.declared.place.FaultPlace.{FaultPlace}
use Rattle.tell_faults.specs.declared.place.FaultPlace.TheVariants as chain
use Rattle.tell_entries.specs.declared.place.EntryPlace.{EntryPlace}
use Rattle.tell_entries.specs.declared.place.EntryPlace.TheVariants as entry
use Rattle.tell_chains.specs.declared.place.StreamPlace.{StreamPlace}
use Rattle.read_files.specs.declared.fault.ReadFault.{ReadFault}
use Rattle.read_files.specs.declared.fault.ReadFault.TheVariants as read
use Rattle.tell_checks.specs.declared.spot.Place.{Place}
use Rattle.tell_checks.specs.declared.spot.Place.TheVariants as place
use Rattle.tell_checks.specs.declared.spot.Spot.{Spot}

-- a place at which a file has a fault
abbrev pub IsPlaceOf : List ℕ → ReadFault → Place → Type 0
IsPlaceOf file (read.Chain fault) (place.Chain p) = IsFaultAt file fault p
IsPlaceOf file (read.Chain fault) (place.Stream p) = IsFaultOfStream file fault p
IsPlaceOf file (read.Chain fault) (place.Entry p) = ⊥
IsPlaceOf file (read.Directory fault) (place.Chain p) = ⊥
IsPlaceOf file (read.Directory fault) (place.Stream p) = ⊥
IsPlaceOf file (read.Directory fault) (place.Entry p) = IsFaultOfEntry file fault p
IsPlaceOf file read.NoMemory (place.Chain p) = ⊥
IsPlaceOf file read.NoMemory (place.Stream p) = ⊥
IsPlaceOf file read.NoMemory (place.Entry p) = ⊥

-- The places of which one is told wherever a file with a sound header has one: those of the FAT and of the system's
-- parts, those of streams but for a chain that leads to a taken sector, and those of entries but for the faults of
-- links between them.
abbrev pub IsPromised : ReadFault → Place → Type 0
IsPromised fault (place.Chain p) = Unit {0}
IsPromised (read.Chain fault) (place.Stream p) = fault ≢ chain_fault.CrossLinked
IsPromised (read.Directory fault) (place.Stream p) = Unit {0}
IsPromised read.NoMemory (place.Stream p) = Unit {0}
IsPromised (read.Directory fault) (place.Entry p) = IsOfLinks fault → ⊥
IsPromised (read.Chain fault) (place.Entry p) = Unit {0}
IsPromised read.NoMemory (place.Entry p) = Unit {0}

-- none of these has the fault
abbrev pub IsNowhere : List ℕ → ReadFault → Type 0
IsNowhere file fault = (p : Place) → IsPromised fault p → IsPlaceOf file fault p → ⊥

-- ---- the path
-- the way to the entry of a place; of two with one name it is that of the second
abbrev pub way_of : Place → List ℕ
way_of (place.Chain p) = []
way_of (place.Stream p) = p.way.items
way_of (place.Entry entry.Nowhere) = []
way_of (place.Entry (entry.Entry way)) = way.items
way_of (place.Entry (entry.Twins way m n)) = way.items ++ n ∷ []

-- the names of the first entries on a way
abbrev pub AreNamesOf : List ℕ → List ℕ → List (List ℕ) → Type 0
AreNamesOf dir way [] = Unit {0}
AreNamesOf dir [] (name ∷ names) = ⊥
AreNamesOf dir (id ∷ way) (name ∷ names) = IsNamed (entry_at dir id) name × AreNamesOf dir way names

-- names as `list` spells them, with a slash behind each
abbrev pub within : List (List ℕ) → List ℕ
within [] = []
within (name ∷ names) = name_text name ++ 47 ∷ within names

-- The path of the entry to which a way leads, or its front, which ends with a slash, as far as names are known.
abbrev pub IsPathIn : List ℕ → List ℕ → List ℕ → Type 0
IsPathIn dir way path = ((names : List (List ℕ)) × AreNamesOf dir way names × (length names < length way)
    × (path ≡ within names))
    ⊎ ((names : List (List ℕ)) × (name : List ℕ) × AreNamesOf dir way (names ++ name ∷ [])
    × (length names + 1 ≡ length way) × (path ≡ within names ++ name_text name))

-- the same of a file
abbrev pub IsPathOf : List ℕ → List ℕ → List ℕ → Type 0
IsPathOf file way path = (dir : List ℕ) × IsDirectory file dir × IsPathIn dir way path

-- ---- the byte
-- An item of a table begins at a byte of a file: the table lies in these sectors, one after another, and its items have
-- so many bytes each.
pub record IsItemAt (sectors : List ℕ) (width n byte : ℕ) : Type 0 where
  pub within : n / (512 / width) < length sectors
  pub is : byte ≡ 512 + 512 * slice_index sectors (n / (512 / width)) + width * (n % (512 / width))

-- a number stands at a byte of a file
pub record IsWordAt (file : List ℕ) (byte n : ℕ) : Type 0 where
  pub inside : byte + 4 ≤ length file
  pub is : u32_at file byte ≡ n

-- the directory of a file, in whose sectors an entry begins at a byte
pub record IsEntryIn (file dir : List ℕ) (byte id : ℕ) : Type 0 where
  pub directory : IsDirectory file dir
  pub at : IsItemAt directory.sectors 128 id byte

-- an entry of the directory begins at a byte of a file, and stands there
pub record IsEntryAt (file : List ℕ) (byte id : ℕ) : Type 0 where
  pub dir : List ℕ
  pub begins : IsEntryIn file dir byte id
  pub inside : byte + 128 ≤ length file
  pub same : take 128 (drop byte file) ≡ take 128 (drop (128 * id) dir)

-- where an entry names the first sector of its stream
abbrev pub IsFirstOf : List ℕ → ℕ → ℕ → Type 0
IsFirstOf file id byte = (dir : List ℕ) × (entry : ℕ) × IsEntryIn file dir entry id × (byte ≡ entry + 116)

-- where the FAT names the sector behind another
abbrev pub IsNextOf : List ℕ → ℕ → ℕ → Type 0
IsNextOf file n byte = IsItemAt (listed file) 4 n byte

-- where the mini FAT names the mini sector behind another
abbrev pub IsNextMiniOf : List ℕ → ℕ → ℕ → Type 0
IsNextMiniOf file n byte = (ns : List ℕ) × IsChain (sectors_of file (listed file)) (first_mini_fat file) 0 ns
    × IsItemAt ns 4 n byte

-- where a link stands: that of a sector, or the first one of its chain
abbrev pub IsLinkAt : (ℕ → ℕ → Type 0) → (ℕ → Type 0) → Option ℕ → ℕ → Type 0
IsLinkAt next first None byte = first byte
IsLinkAt next first (Some n) byte = next n byte

-- where the number stands that a link names
abbrev pub IsByteOfChain : List ℕ → FaultPlace → ℕ → Type 0
IsByteOfChain file chain.Header byte = ⊥
IsByteOfChain file chain.Fat byte = ⊥
IsByteOfChain file (chain.Directory link) byte = IsWordAt file byte link.to
    × IsLinkAt (IsNextOf file) (λ b. b ≡ 48) link.from byte
IsByteOfChain file (chain.MiniFat link) byte = IsWordAt file byte link.to
    × IsLinkAt (IsNextOf file) (λ b. b ≡ 60) link.from byte
IsByteOfChain file (chain.MiniStream link) byte = IsWordAt file byte link.to
    × IsLinkAt (IsNextOf file) (IsFirstOf file 0) link.from byte

-- the same of a stream, which lies in mini sectors or in sectors
abbrev pub IsStreamLinkAt : List ℕ → Bool → (ℕ → Type 0) → Option ℕ → ℕ → Type 0
IsStreamLinkAt file true = IsLinkAt (IsNextMiniOf file)
IsStreamLinkAt file false = IsLinkAt (IsNextOf file)

abbrev pub IsByteOfStream : List ℕ → StreamPlace → ℕ → Type 0
IsByteOfStream file p byte = IsWordAt file byte p.link.to
    × IsStreamLinkAt file p.is_mini (IsFirstOf file (end_of p.way.items)) p.link.from byte

-- where the entry begins; of two with one name it is the second
abbrev pub IsByteOfEntry : List ℕ → EntryPlace → ℕ → Type 0
IsByteOfEntry file entry.Nowhere byte = ⊥
IsByteOfEntry file (entry.Entry way) byte = IsEntryAt file byte (end_of way.items)
IsByteOfEntry file (entry.Twins way m n) byte = IsEntryAt file byte n

-- the byte of a place
abbrev pub IsByteOf : List ℕ → Place → ℕ → Type 0
IsByteOf file (place.Chain p) byte = IsByteOfChain file p byte
IsByteOf file (place.Stream p) byte = IsByteOfStream file p byte
IsByteOf file (place.Entry p) byte = IsByteOfEntry file p byte

-- ---- all of it
pub record IsSpotOf (file : List ℕ) (fault : ReadFault) (s : Spot) : Type 0 where
  pub at : IsPlaceOf file fault s.place
  pub path : IfSome s.path (λ p. IsPathOf file (way_of s.place) (string_bytes p))
  pub byte : IfSome s.byte (λ b. IsByteOf file s.place b)

-- a fault of the header is told, with the header as its place
abbrev pub IsHeaderTold : List ℕ → ReadFault → Option Spot → Type 0
IsHeaderTold file fault at = (e : ChainFault) → header_read file ≡ Err e → fault ≡ read.Chain e
    → option_map (λ s. s.place) at ≡ Some (place.Chain chain.Header)

-- where no place is told of a file with a sound header, none of those that are promised has the fault
abbrev pub IsPlaceTold : List ℕ → ReadFault → Option Spot → Type 0
IsPlaceTold file fault at = IsHeader file → IfNone at (IsNowhere file fault)
