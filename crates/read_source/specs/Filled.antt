-- What was read of a file.
use Rattle.std.specs.Prelude.{◌≡◌, ◌+◌, ◌*◌, ◌<◌, ◌≤◌, ℕ, List, length, min, slice_index, Err}
use Rattle.std.specs.List.{All}
use Rattle.cfb_header.specs.Bytes.{joined, sector, u32_at}
use Rattle.cfb_chains.specs.Chain.{END_OF_CHAIN, Leads}
use Rattle.cfb_chains.specs.Fat.{sectors_in}
use Rattle.cfb_header.specs.Header.{HeaderValue, difat_by, fat_by, header_read}
use Rattle.cfb_file.specs.Alike.{AgreeOn}
use Rattle.read_source.specs.declared.fault.PlacesFault.{PlacesFault}
use Rattle.read_source.specs.declared.fault.PlacesFault.TheVariants.{Unreadable, TooBig, NoMemory, Header}

-- the most bytes that a file may have
abbrev pub most : ℕ
most = 134217728

-- Sectors of a file were read: those that were there before are there, and these are.
pub record IsRead (a old new ns : List ℕ) : Type 0 where
  pub kept : (n : ℕ) → sector a n ≡ sector old n → sector a n ≡ sector new n
  pub there : AgreeOn a new ns

-- The sectors of the chain that begins with one by a table were read, where there is such a chain.
pub record IsChainRead (a old new table : List ℕ) (start : ℕ) : Type 0 where
  pub kept : (n : ℕ) → sector a n ≡ sector old n → sector a n ≡ sector new n
  pub there : (ns : List ℕ) → length table ≤ END_OF_CHAIN → Leads (slice_index table) start ns END_OF_CHAIN
      → All (λ n. n < length table) ns → AgreeOn a new ns

-- The sectors are those of the chain that begins with one by a table, where there is such a chain.
abbrev pub IsChainFound : List ℕ → ℕ → List ℕ → Type 0
IsChainFound table start found = (ns : List ℕ) → length table ≤ END_OF_CHAIN
    → Leads (slice_index table) start ns END_OF_CHAIN → All (λ n. n < length table) ns → found ≡ ns

-- The sectors of the directory and of the mini FAT, by the entries of a FAT that lies in these sectors of a file.
pub record AreFound (file fat : List ℕ) (h : HeaderValue) (directory mini_fat : List ℕ) : Type 0 where
  pub table : List ℕ
  pub count : length table ≡ min (128 * length fat) (sectors_in file)
  pub each : (k : ℕ) → k < length table → slice_index table k ≡ u32_at (joined (sector file) fat) (4 * k)
  pub directory_found : IsChainFound table h.first_directory directory
  pub mini_fat_found : IsChainFound table h.first_mini_fat mini_fat

-- The sectors of the DIFAT and of the FAT that a header and they list were read, `ns` being the FAT's.
pub record AreListsRead (a old new : List ℕ) (h : HeaderValue) (ns : List ℕ) : Type 0 where
  pub kept : (n : ℕ) → sector a n ≡ sector old n → sector a n ≡ sector new n
  pub difat_there : AgreeOn a new (difat_by a h)
  pub listed_are : ns ≡ fat_by a h
  pub fat_there : AgreeOn a new ns

-- Likewise, so many sectors from one on.
pub record IsRunRead (a old new : List ℕ) (first count : ℕ) : Type 0 where
  pub kept : (n : ℕ) → sector a n ≡ sector old n → sector a n ≡ sector new n
  pub there : (k : ℕ) → k < count → sector a (first + k) ≡ sector new (first + k)

-- the faults that any read may meet
abbrev pub IsOfReading : PlacesFault → Type 0
IsOfReading Unreadable = Unit {0}
IsOfReading TooBig = ⊥
IsOfReading NoMemory = Unit {0}
IsOfReading (Header fault) = ⊥

-- when a file of known bytes may be refused
abbrev pub MayRefusePlaces : List ℕ → PlacesFault → Type 0
MayRefusePlaces a Unreadable = Unit {0}
MayRefusePlaces a TooBig = most < length a
MayRefusePlaces a NoMemory = Unit {0}
MayRefusePlaces a (Header fault) = header_read a ≡ Err fault
