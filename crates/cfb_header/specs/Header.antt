-- The header of a compound file, its first 512 bytes (MS-CFB 2.2).
use Rattle.std.specs.Prelude.{◌≡◌, ◌≤◌, ◌<◌, ◌^◌, ◌+◌, ◌-◌, ◌*◌, ◌++◌, ℕ, zero, suc, List, [], ◌∷◌, length, min, take}
use Rattle.std.specs.Prelude.{map, replicate, Result, Ok, Err, cond, not, nat_lt, nat_eq}
use Rattle.std.specs.List.{All, range_with_len, flat_map, starts_with}
use Rattle.std.specs.Int.{w32, to_le_bytes}
use Rattle.cfb_header.specs.Bytes.{u16_at, u32_at, sector}
use Rattle.cfb_header.specs.declared.fault.ChainFault.{ChainFault}
use Rattle.cfb_header.specs.declared.fault.ChainFault.TheVariants.{Truncated, BadSignature, Unsupported, TooBig}

abbrev pub signature : List ℕ
signature = 0xD0 ∷ 0xCF ∷ 0x11 ∷ 0xE0 ∷ 0xA1 ∷ 0xB1 ∷ 0x1A ∷ 0xE1 ∷ []

-- the value that ends a chain
abbrev pub END_OF_CHAIN : ℕ
END_OF_CHAIN = 0xFFFFFFFE

-- how many FAT sectors the header can name
abbrev pub LISTED : ℕ
LISTED = 109

-- how many a DIFAT sector names (MS-CFB 2.5)
abbrev pub NAMED : ℕ
NAMED = 127

-- the most DIFAT sectors of a file, and so the most FAT sectors (the bound is this project's own)
abbrev pub MOST_DIFAT_SECTORS : ℕ
MOST_DIFAT_SECTORS = 8

abbrev pub MOST_FAT_SECTORS : ℕ
MOST_FAT_SECTORS = LISTED + NAMED * MOST_DIFAT_SECTORS

-- The fixed fields.
pub record IsHeader (file : List ℕ) : Type 0 where
  pub whole : 512 ≤ length file
  pub signed : take 8 file ≡ signature
  pub major_version : u16_at file 26 ≡ 3
  pub byte_order : u16_at file 28 ≡ 0xFFFE
  pub sector_shift : u16_at file 30 ≡ 9
  pub mini_sector_shift : u16_at file 32 ≡ 6
  pub cutoff : u32_at file 56 ≡ 4096
  pub fat_sectors : u32_at file 44 ≤ MOST_FAT_SECTORS
  pub difat_sectors : u32_at file 72 ≤ MOST_DIFAT_SECTORS

-- Its numbers.
abbrev pub fat_count : List ℕ → ℕ
fat_count file = u32_at file 44

abbrev pub first_directory : List ℕ → ℕ
first_directory file = u32_at file 48

abbrev pub first_mini_fat : List ℕ → ℕ
first_mini_fat file = u32_at file 60

abbrev pub mini_fat_count : List ℕ → ℕ
mini_fat_count file = u32_at file 64

abbrev pub first_difat : List ℕ → ℕ
first_difat file = u32_at file 68

abbrev pub difat_count : List ℕ → ℕ
difat_count file = u32_at file 72

-- the FAT's sectors that the header names, as many as it has room for
abbrev pub listed_first : List ℕ → List ℕ
listed_first file = map (λ k. u32_at file (76 + 4 * k)) (range_with_len 0 (min (fat_count file) LISTED))

-- What a header says: how many FAT sectors there are and the first of them, the first DIFAT sector and their number.
pub record HeaderValue : Type 0 where
  pub fat_count : ℕ
  pub fat : List ℕ
  pub first_difat : ℕ
  pub difat_count : ℕ
  pub first_directory : ℕ
  pub first_mini_fat : ℕ
  pub mini_fat_count : ℕ

-- What there is room for in a header.
pub record FitsHeader (h : HeaderValue) : Type 0 where
  pub fat_count : h.fat_count ≤ MOST_FAT_SECTORS
  pub listed : length h.fat ≡ min h.fat_count LISTED
  pub first_difat : h.first_difat < 2 ^ 32
  pub difat_count : h.difat_count ≤ MOST_DIFAT_SECTORS
  pub fat : All (λ n. n < 2 ^ 32) h.fat
  pub first_directory : h.first_directory < 2 ^ 32
  pub first_mini_fat : h.first_mini_fat < 2 ^ 32
  pub mini_fat_count : h.mini_fat_count < 2 ^ 32

abbrev pub header_of : List ℕ → HeaderValue
header_of file = record {
  fat_count = fat_count file;
  fat = listed_first file;
  first_difat = first_difat file;
  difat_count = difat_count file;
  first_directory = first_directory file;
  first_mini_fat = first_mini_fat file;
  mini_fat_count = mini_fat_count file;
}

-- The DIFAT's sectors, so many from one on: each names the next in its last four bytes (MS-CFB 2.5).
abbrev pub difat_from : List ℕ → ℕ → ℕ → List ℕ
difat_from file zero at = []
difat_from file (suc count) at = at ∷ difat_from file count (u32_at (sector file at) 508)

-- the FAT's sectors that a DIFAT sector names: all its numbers but the last
abbrev pub named_in : List ℕ → ℕ → List ℕ
named_in file n = map (λ k. u32_at (sector file n) (4 * k)) (range_with_len 0 NAMED)

-- the DIFAT's sectors, and the FAT's, in order: those that the header names, then those that the DIFAT does
abbrev pub difat_by : List ℕ → HeaderValue → List ℕ
difat_by file h = difat_from file h.difat_count h.first_difat

abbrev pub fat_by : List ℕ → HeaderValue → List ℕ
fat_by file h = take h.fat_count (h.fat ++ flat_map (named_in file) (difat_by file h))

abbrev pub difat : List ℕ → List ℕ
difat file = difat_by file (header_of file)

abbrev pub listed : List ℕ → List ℕ
listed file = fat_by file (header_of file)

-- What a file's header is refused for, in the order of the checks.
abbrev pub header_read : List ℕ → Result HeaderValue ChainFault
header_read file =
    cond (nat_lt (length file) 512) (Err Truncated) (
    cond (not (starts_with nat_eq file signature)) (Err BadSignature) (
    cond (not (nat_eq (u16_at file 26) 3)) (Err (Unsupported 26)) (
    cond (not (nat_eq (u16_at file 28) 0xFFFE)) (Err (Unsupported 28)) (
    cond (not (nat_eq (u16_at file 30) 9)) (Err (Unsupported 30)) (
    cond (not (nat_eq (u16_at file 32) 6)) (Err (Unsupported 32)) (
    cond (not (nat_eq (u32_at file 56) 4096)) (Err (Unsupported 56)) (
    cond (nat_lt MOST_FAT_SECTORS (fat_count file)) (Err TooBig) (
    cond (nat_lt MOST_DIFAT_SECTORS (difat_count file)) (Err TooBig) (
    Ok (header_of file))))))))))

-- How a header is written: no class id, minor version 0x3E, no transactions, unused entries free.
unfoldable pub header_bytes : HeaderValue → List ℕ
header_bytes h = signature ++ replicate 16 0
    ++ (0x3E ∷ 0 ∷ 3 ∷ 0 ∷ 0xFE ∷ 0xFF ∷ 9 ∷ 0 ∷ 6 ∷ 0 ∷ []) ++ replicate 10 0
    ++ to_le_bytes w32 h.fat_count ++ to_le_bytes w32 h.first_directory ++ replicate 4 0 ++ (0 ∷ 16 ∷ 0 ∷ 0 ∷ [])
    ++ to_le_bytes w32 h.first_mini_fat ++ to_le_bytes w32 h.mini_fat_count
    ++ to_le_bytes w32 h.first_difat ++ to_le_bytes w32 h.difat_count
    ++ flat_map (to_le_bytes w32) h.fat ++ replicate (436 - 4 * length h.fat) 255
