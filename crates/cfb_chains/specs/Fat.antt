-- The table of sectors, and what is used of it (MS-CFB 2.3, 2.4).
use Rattle.std.specs.Prelude.{◌≡◌, ◌≢◌, ◌≤◌, ◌<◌, ◌+◌, ◌-◌, ◌*◌, ◌/◌, ℕ, zero, suc, Bool, true, false, cond, nat_lt}
use Rattle.std.specs.Prelude.{take, ◌⊎◌, List, [], ◌∷◌, ◌++◌, length, min, replicate, slice_index, slice_index_or}
use Rattle.std.specs.List.{All, Contains}
use Rattle.cfb_header.specs.Bytes.{u32_at, block, sector, joined}
use Rattle.cfb_chains.specs.Chain.{Store, Leads, IsPresent, IsChain, IsChainOf, AreDistinct, END_OF_CHAIN}
pub use Rattle.cfb_bytes.specs.Marks.{set_all}
use Rattle.cfb_header.specs.Header.{HeaderValue, difat_by, fat_by}
use Rattle.cfb_header.specs.declared.fault.ChainFault.{ChainFault}
use Rattle.cfb_header.specs.declared.fault.ChainFault.TheVariants.{OutOfFile, Cycle, CrossLinked, ShortChain, NoMemory}

-- the sectors that begin before the end of a file
abbrev pub sectors_in : List ℕ → ℕ
sectors_in file = (length file + 511) / 512 - 1

-- The sectors of a file: those with an entry in the FAT that begin before the end.
unfoldable pub sectors_of : List ℕ → List ℕ → Store
sectors_of file fat = record {
  count = min (128 * length fat) (sectors_in file);
  width = 512;
  piece = sector file;
  next = λ n. u32_at (joined (sector file) fat) (4 * n);
}

-- The mini sectors: those with an entry in the mini FAT, which lies in the sectors `mini_fat`, that begin before
-- the end of the mini stream, of `size` bytes in the sectors `mini_stream`.
unfoldable pub mini_sectors_of : List ℕ → List ℕ → List ℕ → ℕ → Store
mini_sectors_of file mini_fat mini_stream size = record {
  count = min (128 * length mini_fat) ((size + 63) / 64);
  width = 64;
  piece = λ m. block 64 (joined (sector file) mini_stream) (64 * m);
  next = λ m. u32_at (joined (sector file) mini_fat) (4 * m);
}

-- As many FAT sectors are listed as the header says; they and the DIFAT's are in the file, each listed once.
pub record IsFat (file : List ℕ) (h : HeaderValue) : Type 0 where
  pub whole : length (fat_by file h) ≡ h.fat_count
  pub present : All (IsPresent (sectors_of file (fat_by file h))) (fat_by file h ++ difat_by file h)
  pub once : AreDistinct (fat_by file h ++ difat_by file h)

-- A table of sectors with their bytes: where the first stands, how wide each is, what follows each, which are used.
pub record FatValue : Type 0 where
  pub bytes : List ℕ
  pub start : ℕ
  pub width : ℕ
  pub table : List ℕ
  pub used : List Bool

abbrev pub store_of : FatValue → Store
store_of f = record {
  count = length f.table;
  width = f.width;
  piece = λ n. block f.width f.bytes (f.start + f.width * n);
  next = λ n. slice_index f.table n;
}

-- a sector that has an entry and isn't used
abbrev pub IsFree : FatValue → ℕ → Type 0
IsFree f n = (n < length f.table) × (slice_index_or f.used n true ≡ false)

-- sectors that have entries and aren't used, no two of them equal
pub record AreFree (f : FatValue) (ns : List ℕ) : Type 0 where
  pub free : All (IsFree f) ns
  pub once : AreDistinct ns

-- with sectors marked
abbrev pub marked : FatValue → List ℕ → FatValue
marked f ns = record { bytes = f.bytes; start = f.start; width = f.width; table = f.table; used = set_all f.used ns }

-- two stores that agree on the sectors that are there
pub record AreSame (s t : Store) : Type 0 where
  pub count : s.count ≡ t.count
  pub width : s.width ≡ t.width
  pub piece : (n : ℕ) → n < s.count → s.piece n ≡ t.piece n
  pub next : (n : ℕ) → n < s.count → s.next n ≡ t.next n

-- the table of a file with this header, in which the FAT's sectors and the DIFAT's are marked
pub record IsTableOf (file : List ℕ) (h : HeaderValue) (f : FatValue) : Type 0 where
  pub is_fat : IsFat file h
  pub sectors : AreSame (store_of f) (sectors_of file (fat_by file h))
  pub marks : f.used ≡ set_all (replicate (length f.table) false) (fat_by file h ++ difat_by file h)

-- the whole chain from a sector, of unused sectors
pub record IsFreeChain (f : FatValue) (start : ℕ) (ns : List ℕ) : Type 0 where
  pub chain : IsChain (store_of f) start 0 ns
  pub free : AreFree f ns

-- a chain of unused sectors with room for some bytes, or none where there are none
pub record IsFound (f : FatValue) (start bytes : ℕ) (ns : List ℕ) : Type 0 where
  pub chain : IsChainOf (store_of f) start bytes ns
  pub free : AreFree f ns

-- The sectors from one on, each followed by the one that its entry names, as far as entries go, and no more than so
-- many.
abbrev pub followed : List ℕ → ℕ → ℕ → List ℕ
followed table zero at = []
followed table (suc count) at = cond (nat_lt at (length table)) (at ∷ followed table count (slice_index table at)) []

-- the first bytes of what the sectors from one on hold, whether they are marked or not
abbrev pub held : FatValue → ℕ → ℕ → List ℕ
held f start len = take len (joined (store_of f).piece (followed f.table (length f.table) start))

-- the mini FAT's chain and the mini stream's, no sector of one in the other
pub record IsMiniFound (f : FatValue) (first count start size : ℕ) (mini_fat mini_stream : List ℕ) : Type 0 where
  pub table : IsChainOf (store_of f) first (512 * count) mini_fat
  pub stream : IsChainOf (store_of f) start size mini_stream
  pub free : AreFree f (mini_fat ++ mini_stream)

-- The table of a mini stream of `size` bytes, whose sectors are given, and `mini_fat`, those of its table.
pub record IsMiniTable (f : FatValue) (mini_fat mini_stream : List ℕ) (size : ℕ) (m : FatValue) : Type 0 where
  pub sectors : AreSame (store_of m) (record {
    count = min (128 * length mini_fat) ((size + 63) / 64);
    width = 64;
    piece = λ n. block 64 (joined (store_of f).piece mini_stream) (64 * n);
    next = λ n. u32_at (joined (store_of f).piece mini_fat) (4 * n);
  })
  pub marks : m.used ≡ replicate (length m.table) false

-- Of the DIFAT's sectors so many from the first on are in the file, and one of them is met again.
pub record ComesBack (s : Store) (difat : List ℕ) : Type 0 where
  pub count : ℕ
  pub present : All (IsPresent s) (take count difat)
  pub again : AreDistinct (take count difat) → ⊥

-- Each of the DIFAT's sectors is in the file and met once, and one of them or of the FAT's is listed twice.
pub record AreCrossed (s : Store) (fat difat : List ℕ) : Type 0 where
  pub present : All (IsPresent s) difat
  pub once : AreDistinct difat
  pub twice : AreDistinct (fat ++ difat) → ⊥

-- When a fault may be answered for the FAT of a file with this header: the DIFAT's walk ends at the first of its
-- sectors that isn't in the file, and want of memory is told only where enough are listed, and those that the header
-- names are there.
abbrev pub MayRefuseFat : List ℕ → HeaderValue → ChainFault → Type 0
MayRefuseFat file h OutOfFile = (n : ℕ) × Contains (fat_by file h ++ difat_by file h) n
    × (IsPresent (sectors_of file (fat_by file h)) n → ⊥)
MayRefuseFat file h Cycle = ComesBack (sectors_of file (fat_by file h)) (difat_by file h)
MayRefuseFat file h CrossLinked = AreCrossed (sectors_of file (fat_by file h)) (fat_by file h) (difat_by file h)
MayRefuseFat file h ShortChain = length (fat_by file h) < h.fat_count
MayRefuseFat file h NoMemory = (length (fat_by file h) ≡ h.fat_count)
    × All (IsPresent (sectors_of file (fat_by file h))) h.fat
MayRefuseFat file h _ = ⊥

-- when a fault may be answered for the chain from a sector that needs room for some bytes: want of memory only where
-- the chain is there
abbrev pub MayRefuse : FatValue → ℕ → ℕ → ChainFault → Type 0
MayRefuse f start bytes OutOfFile = (ns : List ℕ) × (last : ℕ) × Leads (store_of f).next start ns last
    × All (IsFree f) ns × (last ≢ END_OF_CHAIN) × (length f.table ≤ last)
MayRefuse f start bytes Cycle = (ns : List ℕ) × (last : ℕ) × Leads (store_of f).next start ns last
    × All (IsFree f) ns × Contains ns last
MayRefuse f start bytes CrossLinked = (ns : List ℕ) × (last : ℕ) × Leads (store_of f).next start ns last
    × All (IsFree f) ns × (last < length f.table) × (slice_index_or f.used last true ≡ true)
MayRefuse f start bytes ShortChain = (ns : List ℕ) × Leads (store_of f).next start ns END_OF_CHAIN × AreFree f ns
    × (f.width * length ns < bytes)
MayRefuse f start bytes NoMemory = (ns : List ℕ) × IsFound f start bytes ns
MayRefuse f start bytes _ = ⊥

-- when a fault may be answered for the whole chain from a sector
abbrev pub MayRefuseChain : FatValue → ℕ → ChainFault → Type 0
MayRefuseChain f start NoMemory = (ns : List ℕ) × IsFreeChain f start ns
MayRefuseChain f start fault = MayRefuse f start 0 fault

-- each sector has a mark, and a regular number
abbrev pub IsSound : List ℕ → List Bool → Type 0
IsSound table used = (length table ≡ length used) × (length table ≤ 0xFFFFFFF9)

-- When a fault may be answered for the mini FAT's chain and the mini stream's: for either as they stand, or for the
-- mini stream's where the mini FAT's sectors are marked. A mini FAT of no sectors has no chain.
abbrev pub MayRefuseMini : FatValue → HeaderValue → ℕ → ℕ → ChainFault → Type 0
MayRefuseMini f h start size e = ((0 < h.mini_fat_count) × MayRefuse f h.first_mini_fat (512 * h.mini_fat_count) e)
    ⊎ ((ns : List ℕ) × IsFound f h.first_mini_fat (512 * h.mini_fat_count) ns × MayRefuse (marked f ns) start size e)
