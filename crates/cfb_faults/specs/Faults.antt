-- What is wrong with a file: chains of its parts at fault, and what stands below its root.
use Rattle.std.specs.Prelude.{◌≡◌, ◌≢◌, ◌⊎◌, ◌<◌, ◌≤◌, ◌*◌, ◌++◌, ℕ, suc, true, false, List, [], ◌∷◌, length}
use Rattle.std.specs.Prelude.{if◌then◌else◌, nat_lt, Err}
use Rattle.std.specs.List.{All, Contains}
use Rattle.cfb_header.specs.Bytes.{joined, sector}
use Rattle.cfb_chains.specs.Chain.{AreDistinct, END_OF_CHAIN, IsChain, IsChainOf, IsPresent, Leads, Store}
use Rattle.cfb_chains.specs.Fat.{AreCrossed, ComesBack, IsFat, sectors_of}
use Rattle.cfb_header.specs.Header.{difat, fat_count, first_directory, first_mini_fat, header_of, header_read, listed}
use Rattle.cfb_header.specs.Header.{mini_fat_count}
use Rattle.cfb_header.specs.declared.fault.ChainFault.{ChainFault}
use Rattle.cfb_header.specs.declared.fault.ChainFault.TheVariants as chain
use Rattle.cfb_names.specs.Names.{is_forbidden, key}
use Rattle.cfb_names.specs.declared.fault.DirFault.{DirFault}
use Rattle.cfb_names.specs.declared.fault.DirFault.TheVariants as directory
use Rattle.cfb_entries.specs.Entries.{AreInside, IsKindOf, NO_STREAM, Reaches, child, entry_at, first_of, kind}
use Rattle.cfb_entries.specs.Entries.{name_length, name_of, size_of}
use Rattle.cfb_file.specs.Alike.{Alike}
use Rattle.cfb_file.specs.Limits.{CUTOFF}
use Rattle.cfb_file.specs.Denotes.{IsLaidOut, Layout, directory_of, minis, sectors}

-- The key of an entry's name.
abbrev pub key_at : List ℕ → ℕ → List ℕ
key_at directory id = key (name_of (entry_at directory id))

-- ---- entries below the root
-- the root, which is entry 0 and no other, or a storage
abbrev pub IsStorage : List ℕ → ℕ → Type 0
IsStorage dir id = ((id ≡ 0) × (kind (entry_at dir id) ≡ 5)) ⊎ ((id ≢ 0) × (kind (entry_at dir id) ≡ 1))

-- an entry that the links of a storage reach
pub record IsChild (dir : List ℕ) (parent id : ℕ) : Type 0 where
  pub of_storage : IsStorage dir parent
  pub inside : 128 * id < length dir
  pub somebody : id ≢ NO_STREAM
  pub reached : Reaches dir (child (entry_at dir parent)) id

-- entries one after another, each a child of the one before
abbrev pub Descends : List ℕ → ℕ → List ℕ → ℕ → Type 0
Descends dir top [] id = id ≡ top
Descends dir top (n ∷ ns) id = IsChild dir top n × Descends dir n ns id

-- An entry so many levels below the root, with the entries on the way to it, all different.
pub record IsBelow (dir : List ℕ) (levels id : ℕ) : Type 0 where
  pub way : List ℕ
  pub long : length way ≡ levels
  pub leads : Descends dir 0 way id
  pub once : AreDistinct (0 ∷ way)

-- an entry of another kind than it may have, or whose name's length is odd
abbrev pub IsBadEntry : List ℕ → ℕ → Type 0
IsBadEntry dir id = (IsKindOf id (kind (entry_at dir id)) → ⊥) ⊎ ((k : ℕ) → name_length (entry_at dir id) ≢ 2 * k)

-- a storage from whose child links lead outside the directory
abbrev pub LeadsOutside : List ℕ → ℕ → Type 0
LeadsOutside dir id = (n : ℕ) × IsStorage dir id × Reaches dir (child (entry_at dir id)) n × (n ≢ NO_STREAM)
    × (length dir ≤ 128 * n)

-- how many storages may stand inside one another below the root
abbrev pub DEEPEST : ℕ
DEEPEST = 32

-- a child of a storage other than this one
pub record IsOthersChild (dir : List ℕ) (id n : ℕ) : Type 0 where
  pub levels : ℕ
  pub other : ℕ
  pub below : IsBelow dir levels other
  pub another : other ≢ id
  pub child_of : IsChild dir other n

-- an entry that may be a child of this storage
abbrev pub MayBeChild : List ℕ → ℕ → ℕ → Type 0
MayBeChild dir id n = (n ≢ 0) × (IsOthersChild dir id n → ⊥)

-- When a fault of the directory may be answered for what stands below the root.
abbrev pub MayRefuseBelow : List ℕ → DirFault → Type 0
MayRefuseBelow dir directory.NameEmpty = (levels : ℕ) × (id : ℕ) × IsBelow dir (suc levels) id
    × (name_length (entry_at dir id) < 4)
MayRefuseBelow dir directory.NameTooLong = (levels : ℕ) × (id : ℕ) × IsBelow dir (suc levels) id
    × (64 < name_length (entry_at dir id))
MayRefuseBelow dir directory.NameNotAscii = (levels : ℕ) × (id : ℕ) × IsBelow dir (suc levels) id
    × ((name_length (entry_at dir id) ≤ 64) × ((c : ℕ) × Contains (name_of (entry_at dir id)) c × (127 < c)))
MayRefuseBelow dir directory.NameForbidden = (levels : ℕ) × (id : ℕ) × IsBelow dir (suc levels) id
    × ((name_length (entry_at dir id) ≤ 64)
    × ((c : ℕ) × Contains (name_of (entry_at dir id)) c × (is_forbidden c ≡ true)))
MayRefuseBelow dir directory.DuplicateName = (levels : ℕ) × (id : ℕ) × IsBelow dir levels id
    × ((m : ℕ) × (n : ℕ) × IsChild dir id m × IsChild dir id n × (m ≢ n) × (key_at dir m ≡ key_at dir n))
MayRefuseBelow dir directory.TooNested = (id : ℕ) × IsBelow dir (suc DEEPEST) id × (kind (entry_at dir id) ≡ 1)
MayRefuseBelow dir directory.BadEntry = (levels : ℕ) × (id : ℕ)
    × ((IsBelow dir (suc levels) id × IsBadEntry dir id) ⊎ (IsBelow dir levels id × LeadsOutside dir id))
MayRefuseBelow dir directory.TreeCycle = (levels : ℕ) × (id : ℕ) × IsBelow dir levels id × IsStorage dir id
    × ((ids : List ℕ) → AreInside dir (child (entry_at dir id)) ids → AreDistinct ids
    → All (λ n. MayBeChild dir id n) ids → ⊥)
MayRefuseBelow dir directory.NoMemory = ⊥

-- ---- chains at fault
-- from a sector on links lead to `last`, over sectors that are there
pub record Walks (s : Store) (start : ℕ) (ns : List ℕ) (last : ℕ) : Type 0 where
  pub linked : Leads s.next start ns last
  pub present : All (λ n. n < s.count) ns

-- What is wrong with the chain from a sector, which needs room for some bytes, where some sectors are taken by other
-- parts: it leads out of the store, it comes back to a sector of its own, it leads to one that is taken, or it ends
-- before there is room.
abbrev pub IsChainAtFault : Store → (ℕ → Type 0) → ℕ → ℕ → ChainFault → Type 0
IsChainAtFault s taken start size chain.OutOfFile = (ns : List ℕ) × (last : ℕ) × Walks s start ns last
    × (last ≢ END_OF_CHAIN) × (s.count ≤ last)
IsChainAtFault s taken start size chain.Cycle = (ns : List ℕ) × (last : ℕ) × Walks s start ns last × Contains ns last
IsChainAtFault s taken start size chain.CrossLinked = (ns : List ℕ) × (last : ℕ) × Walks s start ns last
    × (last < s.count) × taken last
IsChainAtFault s taken start size chain.ShortChain = (ns : List ℕ) × Walks s start ns END_OF_CHAIN
    × (s.width * length ns < size)
IsChainAtFault s taken start size _ = ⊥

-- What storages are read from: the directory, the sectors and the mini sectors of a file, and which sectors the
-- system's own parts have.
pub record Base : Type 0 where
  pub directory : List ℕ
  pub sectors : Store
  pub minis : Store
  pub own : List ℕ

abbrev pub base_in : List ℕ → Layout → Base
base_in file l = record {
  directory = directory_of file l;
  sectors = sectors file l;
  minis = minis file l;
  own = l.fat ++ l.difat ++ l.directory ++ l.mini_fat ++ l.mini_stream;
}

-- where a stream of a size lies
abbrev pub store_in : Base → ℕ → Store
store_in b size = if nat_lt size CUTOFF then b.minis else b.sectors

-- a sector in the chain of a stream other than this one, both in sectors or both in mini sectors
pub record IsInOther (b : Base) (id n : ℕ) : Type 0 where
  pub levels : ℕ
  pub other : ℕ
  pub below : IsBelow b.directory (suc levels) other
  pub another : other ≢ id
  pub is_stream : kind (entry_at b.directory other) ≡ 2
  pub same_table : nat_lt (size_of (entry_at b.directory other)) CUTOFF ≡ nat_lt (size_of (entry_at b.directory id))
      CUTOFF
  pub ns : List ℕ
  pub is_chain : IsChainOf (store_in b (size_of (entry_at b.directory other)))
      (first_of (entry_at b.directory other)) (size_of (entry_at b.directory other)) ns
  pub there : Contains ns n

-- The sectors that other parts have, as a stream sees them: those of the system's own parts where it lies in sectors,
-- and those of other streams.
abbrev pub IsTakenFor : Base → ℕ → ℕ → Type 0
IsTakenFor b id n = ((nat_lt (size_of (entry_at b.directory id)) CUTOFF ≡ false) × Contains b.own n) ⊎ IsInOther b id n

-- an entry whose stream isn't empty, and has a chain at fault
pub record IsStreamAtFault (b : Base) (id : ℕ) (fault : ChainFault) : Type 0 where
  pub kind_is : kind (entry_at b.directory id) ≡ 2
  pub some : 0 < size_of (entry_at b.directory id)
  pub at_fault : IsChainAtFault (store_in b (size_of (entry_at b.directory id))) (λ n. IsTakenFor b id n)
      (first_of (entry_at b.directory id)) (size_of (entry_at b.directory id)) fault

-- the bytes of a file's directory
pub record IsDirectory (file dir : List ℕ) : Type 0 where
  pub is_fat : IsFat file (header_of file)
  pub sectors : List ℕ
  pub is_chain : IsChain (sectors_of file (listed file)) (first_directory file) 0 sectors
  pub bytes_are : dir ≡ joined (sector file) sectors

-- What is wrong with the FAT's sectors and the DIFAT's: one isn't in the file, the DIFAT comes back to one of its own
-- before one that isn't, one is listed twice where the DIFAT doesn't come back, or fewer are listed than the header
-- says.
abbrev pub IsFatAtFault : List ℕ → ChainFault → Type 0
IsFatAtFault file chain.OutOfFile = (n : ℕ) × Contains (listed file ++ difat file) n
    × (IsPresent (sectors_of file (listed file)) n → ⊥)
IsFatAtFault file chain.Cycle = ComesBack (sectors_of file (listed file)) (difat file)
IsFatAtFault file chain.CrossLinked = AreCrossed (sectors_of file (listed file)) (listed file) (difat file)
IsFatAtFault file chain.ShortChain = length (listed file) < fat_count file
IsFatAtFault file _ = ⊥

-- The part of a file that is at fault: the header, the FAT, or one of those that lie in chains, which are the
-- directory, the mini FAT, the mini stream, and the stream of an entry that links reach from the root. What those
-- before it lie in is taken.
pub data IsFileAtFault (file : List ℕ) (fault : ChainFault) : Type 0 where
  in_header : header_read file ≡ Err fault → IsFileAtFault file fault
  in_fat : IsFatAtFault file fault → IsFileAtFault file fault
  in_directory : IsChainAtFault (sectors_of file (listed file)) (Contains (listed file ++ difat file))
      (first_directory file) 0 fault → IsFileAtFault file fault
  in_mini_fat : (dir : List ℕ) (d : IsDirectory file dir) → 0 < mini_fat_count file
      → IsChainAtFault (sectors_of file (listed file)) (Contains (listed file ++ difat file ++ d.sectors))
      (first_mini_fat file) (512 * mini_fat_count file) fault
      → IsFileAtFault file fault
  in_mini_stream : (dir : List ℕ) (d : IsDirectory file dir) (mini_fat : List ℕ)
      → IsChainOf (sectors_of file (listed file)) (first_mini_fat file) (512 * mini_fat_count file) mini_fat
      → 0 < size_of (entry_at dir 0)
      → IsChainAtFault (sectors_of file (listed file))
      (Contains (listed file ++ difat file ++ d.sectors ++ mini_fat)) (first_of (entry_at dir 0))
      (size_of (entry_at dir 0)) fault
      → IsFileAtFault file fault
  in_stream : (l : Layout) → IsLaidOut file l → (levels id : ℕ) → IsBelow (directory_of file l) (suc levels) id
      → IsStreamAtFault (base_in file l) id fault
      → IsFileAtFault file fault

-- The part of a file's directory that is at fault: there is no root, or what stands below it.
abbrev pub IsDirectoryAtFault : List ℕ → DirFault → Type 0
IsDirectoryAtFault file directory.BadEntry = (dir : List ℕ) × IsDirectory file dir
    × ((length dir < 128) ⊎ (kind (entry_at dir 0) ≢ 5) ⊎ MayRefuseBelow dir directory.BadEntry)
IsDirectoryAtFault file fault = (dir : List ℕ) × IsDirectory file dir × MayRefuseBelow dir fault

-- ---- the law
-- of two files that a listing can't tell apart, one is at fault where the other is
abbrev pub AlikeAtFault : Type 0
AlikeAtFault = (a b : List ℕ) → Alike a b
    → ((fault : ChainFault) → IsFileAtFault b fault → IsFileAtFault a fault)
    × ((fault : DirFault) → IsDirectoryAtFault b fault → IsDirectoryAtFault a fault)
