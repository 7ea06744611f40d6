-- How a file is read, and which files are refused.
use Rattle.std.specs.Prelude.{◌≡◌, ◌↔◌, ◌<◌, ◌-◌, ℕ, suc, true, List, [], ◌∷◌, ◌++◌, length, map, slice_index_or, take}
use Rattle.std.specs.Prelude.{if◌then◌else◌, nat_lt, Option, Some, None, Err, codes}
use Rattle.std.specs.List.{All, Contains}
use Rattle.std.specs.List.Sorted.{IsStrictlySortedBy}
use Rattle.cfb_header.specs.Bytes.{joined}
use Rattle.cfb_header.specs.Fault.{name_of as name_of_chain}
use Rattle.cfb_chains.specs.Chain.{IsPresent}
use Rattle.cfb_chains.specs.Fat.{FatValue, IsFound, marked as sectors_marked, sectors_of, store_of}
use Rattle.cfb_header.specs.Header.{IsHeader, fat_count, header_read, listed, listed_first}
use Rattle.cfb_header.specs.declared.fault.ChainFault.{ChainFault}
use Rattle.cfb_header.specs.declared.fault.ChainFault.TheVariants as chain
use Rattle.cfb_names.specs.Faults.{name_of_fault}
use Rattle.cfb_names.specs.Names.{IsName, key, key_cmp}
use Rattle.cfb_entries.specs.Entries.{AreFree, AreLinked, EntriesValue, HasChildren, IsNamed, child, class_of, entry_at}
use Rattle.cfb_entries.specs.Entries.{first_of, kind, marked, size_of, state_of}
use Rattle.cfb_names.specs.declared.fault.DirFault.{DirFault}
use Rattle.cfb_names.specs.declared.fault.DirFault.TheVariants as directory
use Rattle.tree_storage.specs.Change.{Seen, bytes, inner}
use Rattle.cfb_entries.specs.Tree.{Tree, Children, tree, none, stream, storage}
use Rattle.cfb_file.specs.Limits.{CUTOFF}
use Rattle.cfb_file.specs.Denotes.{Denotes}
use Rattle.cfb_faults.specs.Faults.{Base, IsBelow, IsChainAtFault, IsDirectoryAtFault, IsFileAtFault, IsStreamAtFault}
use Rattle.cfb_faults.specs.Faults.{MayRefuseBelow, key_at}
use Rattle.read_outlines.specs.Streams.{stream_at}
use Rattle.read_outlines.specs.Keeping.{Wanted}
use Rattle.read_outlines.specs.View.{contents, table_for}
use Rattle.read_outlines.specs.declared.outline.Outline.{Outline}
use Rattle.read_outlines.specs.declared.outline.Part.{Part}
use Rattle.read_outlines.specs.Places.{IsChildKept, IsPartKept, IsStorageKept, Leads}
use Rattle.read_files.specs.declared.fault.ReadFault.{ReadFault}
use Rattle.read_files.specs.declared.fault.ReadFault.TheVariants.{Chain, Directory, NoMemory}
use Rattle.read_files.specs.declared.fault.StreamFault.{StreamFault}
use Rattle.read_files.specs.declared.fault.StreamFault.TheVariants.{Read, Tree as Missing}
use Rattle.read_files.specs.declared.read.Reader.{Reader}

-- the faults of the layers below
abbrev pub chain_fault : ChainFault → ReadFault
chain_fault chain.NoMemory = NoMemory
chain_fault fault = Chain fault

abbrev pub directory_fault : DirFault → ReadFault
directory_fault directory.NoMemory = NoMemory
directory_fault fault = Directory fault

-- a fault's name, as it is printed
abbrev pub read_fault_name : ReadFault → List ℕ
read_fault_name (Chain fault) = name_of_chain fault
read_fault_name (Directory fault) = name_of_fault fault
read_fault_name NoMemory = codes "NoMemory"

-- the directory of what is read
abbrev pub directory_in : Reader → List ℕ
directory_in r = r.entries.directory

-- the tables once the sectors of a stream of a size are marked
abbrev pub fat_after : ℕ → List ℕ → FatValue → FatValue
fat_after size ns fat = if nat_lt size CUTOFF then fat else sectors_marked fat ns

abbrev pub mini_after : ℕ → List ℕ → FatValue → FatValue
mini_after size ns mini = if nat_lt size CUTOFF then sectors_marked mini ns else mini

abbrev pub stream_after : ℕ → List ℕ → Reader → Reader
stream_after size ns r = record { fat = fat_after size ns r.fat; mini = mini_after size ns r.mini; entries = r.entries }

-- once entries are marked
abbrev pub met : List ℕ → Reader → Reader
met ids r = record { fat = r.fat; mini = r.mini; entries = marked r.entries ids }

-- The children of an entry in name order: unmarked entries, just those that its links reach.
pub record AreSorted (e : EntriesValue) (id : ℕ) (ids : List ℕ) : Type 0 where
  pub reached : List ℕ
  pub linked : AreLinked e.directory (child (entry_at e.directory id)) reached
  pub free : AreFree e reached
  pub same : (n : ℕ) → Contains reached n ↔ Contains ids n
  pub ordered : IsStrictlySortedBy key_cmp (map (key_at e.directory) ids)

-- A child's name, which is one that a directory takes, and the key of it.
pub record IsChildNamed (directory : List ℕ) (id : ℕ) (k name : List ℕ) : Type 0 where
  pub named : IsNamed (entry_at directory id) name
  pub valid : IsName name
  pub under_key : k ≡ key name

-- An entry's stream: unmarked sectors, which are marked by it, and their bytes.
pub record IsStreamRead (id : ℕ) (bytes : List ℕ) (old new : Reader) : Type 0 where
  pub kind_is : kind (entry_at (directory_in old) id) ≡ 2
  pub ns : List ℕ
  pub found : IsFound (table_for (size_of (entry_at (directory_in old) id)) old.fat old.mini)
      (first_of (entry_at (directory_in old) id))
      (size_of (entry_at (directory_in old) id)) ns
  pub content : bytes ≡ take (size_of (entry_at (directory_in old) id))
      (joined (store_of (table_for (size_of (entry_at (directory_in old) id)) old.fat old.mini)).piece ns)
  pub after : new ≡ stream_after (size_of (entry_at (directory_in old) id)) ns old

-- An entry's storage, with at most so many levels below it: its children are marked, then read one after another, each
-- finding marked what those before it took.
abbrev mutual
  pub IsStorageRead : ℕ → ℕ → Tree → Reader → Reader → Type 0
  IsStorageRead depth id (tree class state cs) old new = (class ≡ class_of (entry_at (directory_in old) id))
      × (state ≡ state_of (entry_at (directory_in old) id))
      × ((ids : List ℕ) × (sorted : AreSorted old.entries id ids) × AreRead depth ids cs (met sorted.reached old) new)

  pub AreRead : ℕ → List ℕ → Children → Reader → Reader → Type 0
  AreRead depth [] none old new = new ≡ old
  AreRead depth [] (stream k name b cs) old new = ⊥
  AreRead depth [] (storage k name t cs) old new = ⊥
  AreRead depth (id ∷ ids) none old new = ⊥
  AreRead depth (id ∷ ids) (stream k name b cs) old new = IsChildNamed (directory_in old) id k name
      × ((next : Reader) × IsStreamRead id b old next × AreRead depth ids cs next new)
  AreRead depth (id ∷ ids) (storage k name t cs) old new = IsChildNamed (directory_in old) id k name
      × ((next : Reader) × ((kind (entry_at (directory_in old) id) ≡ 1) × (0 < depth)
      × IsStorageRead (depth - 1) id t old next) × AreRead depth ids cs next new)

-- an entry read, as a stream or as a storage
abbrev pub IsNodeRead : ℕ → ℕ → Seen → Reader → Reader → Type 0
IsNodeRead depth id (bytes b) old new = IsStreamRead id b old new
IsNodeRead depth id (inner t) old new = (kind (entry_at (directory_in old) id) ≡ 1) × (0 < depth)
    × IsStorageRead (depth - 1) id t old new

-- one entry read, with its name
pub record IsChildRead (depth id : ℕ) (k name : List ℕ) (s : Seen) (old new : Reader) : Type 0 where
  pub named : IsChildNamed (directory_in old) id k name
  pub is_read : IsNodeRead depth id s old new

-- What is kept of the outlines of the entry of a storage, of what an entry holds, and of an entry with its name. What
-- was read is that of the whole outline.
abbrev pub IsOutlined : ℕ → ℕ → Wanted → Outline → Reader → Reader → Type 0
IsOutlined depth id w o old new = IsStorageKept (directory_in old) (contents old.fat old.mini) w id
    (λ t. IsStorageRead depth id t old new) o

abbrev pub IsPartOutlined : ℕ → ℕ → Wanted → Part → Reader → Reader → Type 0
IsPartOutlined depth id w part old new = IsPartKept (directory_in old) (contents old.fat old.mini) w id
    (λ s. IsNodeRead depth id s old new) part

abbrev pub IsChildOutlined : ℕ → ℕ → Wanted → Option (List ℕ × Part) → Reader → Reader → Type 0
IsChildOutlined depth id w child old new = IsChildKept (directory_in old) (contents old.fat old.mini) w id
    (λ k name s. IsChildRead depth id k name s old new) child

-- An entry outlined, and what is kept of it, if anything is, behind what was kept before.
abbrev pub with_child : List (List ℕ × Part) → Option (List ℕ × Part) → List (List ℕ × Part)
with_child parts None = parts
with_child parts (Some child) = parts ++ child ∷ []

pub record IsChildPushed (depth id : ℕ) (w : Wanted) (parts now : List (List ℕ × Part)) (old new : Reader) : Type
    0 where
  pub child : Option (List ℕ × Part)
  pub outlined : IsChildOutlined depth id w child old new
  pub pushed : now ≡ with_child parts child

-- ---- what a file is refused for
-- what a reader reads from, with the sectors that the system's own parts have
abbrev pub base_of : List ℕ → Reader → Base
base_of own r = record { directory = directory_in r; sectors = store_of r.fat; minis = store_of r.mini; own = own }

-- a sector that is there and marked
abbrev pub IsTaken : FatValue → ℕ → Type 0
IsTaken f n = (n < length f.table) × (slice_index_or f.used n true ≡ true)

-- when a fault may be answered for the stream of a size that begins at a sector; it takes no memory to find it
abbrev pub MayRefusePlace : Reader → ℕ → ℕ → ReadFault → Type 0
MayRefusePlace r first size (Chain fault) = (0 < size)
    × IsChainAtFault (store_of (table_for size r.fat r.mini)) (IsTaken (table_for size r.fat r.mini)) first size fault
MayRefusePlace r first size (Directory fault) = ⊥
MayRefusePlace r first size NoMemory = ⊥

-- a fault that is told of a storage is want of memory only where its children are there
abbrev pub MayWant : EntriesValue → ℕ → ReadFault → Type 0
MayWant e id NoMemory = HasChildren e id
MayWant e id fault = Unit {0}

-- when a fault may be answered for what stands below the root
abbrev pub MayRefuseStorage : Base → ReadFault → Type 0
MayRefuseStorage b (Chain fault) = (levels : ℕ) × (id : ℕ) × IsBelow b.directory (suc levels) id
    × IsStreamAtFault b id fault
MayRefuseStorage b (Directory fault) = MayRefuseBelow b.directory fault
MayRefuseStorage b NoMemory = Unit {0}

-- When a fault may be answered for a file: one of the header where the header is refused for it, one of chains where a
-- part has a chain so at fault, one of names where an entry that links reach from the root has such a name, or two
-- siblings have one name, `TooNested` where a storage so reached stands inside too many others, `BadEntry` where there
-- is no root, where links lead outside the directory, or where an entry so reached is bad, and `TreeCycle` where what
-- links reach from the child of a storage is no tree of entries of its own.
abbrev pub MayRefuseFile : List ℕ → ReadFault → Type 0
MayRefuseFile file (Chain fault) = IsFileAtFault file fault
MayRefuseFile file (Directory fault) = IsDirectoryAtFault file fault
MayRefuseFile file NoMemory = Unit {0}

-- A header with its fixed fields, as many FAT sectors listed as it says, and those that it names in the file.
pub record HasLists (file : List ℕ) : Type 0 where
  pub header : IsHeader file
  pub whole : length (listed file) ≡ fat_count file
  pub present : All (IsPresent (sectors_of file (listed file))) (listed_first file)

-- want of memory is told of a file only where it has these lists
abbrev pub MayLack : List ℕ → ReadFault → Type 0
MayLack file NoMemory = HasLists file
MayLack file fault = Unit {0}

-- When bytes may be refused as a file: a header that is at fault is told by its fault, a file that denotes a tree is
-- refused for want of memory alone, and the file has what is told of it.
pub record MayRefuseRead (file : List ℕ) (fault : ReadFault) : Type 0 where
  pub header : (e : ChainFault) → header_read file ≡ Err e → fault ≡ chain_fault e
  pub reads : (t : Tree) → Denotes file t → fault ≡ NoMemory
  pub told : MayRefuseFile file fault

-- when the stream at a path of a file may be refused
abbrev pub MayRefuseStream : List ℕ → List (List ℕ) → StreamFault → Type 0
MayRefuseStream file path (Read fault) = MayRefuseRead file fault
MayRefuseStream file path (Missing fault) = (t : Tree) × ∥ Denotes file t ∥₁ × (stream_at path t ≡ Err fault)

-- and where it lies
abbrev pub MayRefuseFind : List ℕ → List (List ℕ) → StreamFault → Type 0
MayRefuseFind file path (Read fault) = MayRefuseRead file fault
MayRefuseFind file path (Missing fault) = Leads file path (Err fault)
