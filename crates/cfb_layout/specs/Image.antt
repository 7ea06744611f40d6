-- How files are laid out: the FAT first, then the DIFAT, the directory, the mini FAT and the mini stream, each in one
-- run of sectors, and then the long streams, each in a run of its own (MS-CFB 2; the order is this project's own).
use Rattle.std.specs.Prelude.{◌+◌, ◌-◌, ◌*◌, ℕ, zero, suc, List, [], ◌∷◌, ◌++◌, length, map, min, replicate}
use Rattle.std.specs.List.{flat_map, range_with_len}
use Rattle.std.specs.Int.{w32, to_le_bytes}
use Rattle.cfb_chains.specs.Chain.{DIFAT_SECTOR, END_OF_CHAIN, FREE_SECTOR, FAT_SECTOR}
use Rattle.cfb_header.specs.Header.{header_bytes}
use Rattle.cfb_file.specs.Limits.{LISTED, NAMED}
use Rattle.cfb_file.specs.Need.{difat_sectors, pieces}

-- a run of pieces from `at`: each names the next, and the last ends the chain
abbrev pub run : ℕ → ℕ → List ℕ
run at zero = []
run at (suc n) = range_with_len (at + 1) n ++ END_OF_CHAIN ∷ []

-- the table of runs of these lengths, one after another from `at`
abbrev pub runs : ℕ → List ℕ → List ℕ
runs at [] = []
runs at (n ∷ ns) = run at n ++ runs (at + n) ns

-- where a run starts, which is nowhere where it is empty
abbrev pub start : ℕ → ℕ → ℕ
start at zero = END_OF_CHAIN
start at (suc n) = at

-- where each of these runs starts
abbrev pub starts : ℕ → List ℕ → List ℕ
starts at [] = []
starts at (n ∷ ns) = start at n ∷ starts (at + n) ns

-- a table in so many sectors, its unused entries free
abbrev pub table_bytes : ℕ → List ℕ → List ℕ
table_bytes count ns = flat_map (to_le_bytes w32) (ns ++ replicate (128 * count - length ns) FREE_SECTOR)

-- bytes with zeros up to a whole number of pieces
abbrev pub padded : ℕ → List ℕ → List ℕ
padded width bytes = bytes ++ replicate (width * pieces width (length bytes) - length bytes) 0

-- how many pieces of a width each of these takes, and their bytes in whole pieces
abbrev pub pieces_of : ℕ → List (List ℕ) → List ℕ
pieces_of width bs = map (λ b. pieces width (length b)) bs

abbrev pub whole_pieces : ℕ → List (List ℕ) → List ℕ
whole_pieces width bs = flat_map (padded width) bs

-- The parts of a file behind its FAT and DIFAT: the directory's bytes and the mini stream's, in so many whole sectors,
-- how many mini sectors each short stream takes and how many sectors their table, and the long streams.
pub record Parts : Type 0 where
  pub directory : List ℕ
  pub directory_count : ℕ
  pub minis : List ℕ
  pub mini_fat_count : ℕ
  pub mini_stream : List ℕ
  pub mini_stream_count : ℕ
  pub longs : List (List ℕ)

-- the lengths of the runs behind the FAT and the DIFAT
abbrev pub counts : Parts → List ℕ
counts p = p.directory_count ∷ p.mini_fat_count ∷ p.mini_stream_count ∷ pieces_of 512 p.longs

-- the first sector behind f FAT sectors and the DIFAT
abbrev pub behind_fat : ℕ → ℕ
behind_fat f = f + difat_sectors f

-- The FAT sectors that one DIFAT sector names, of those in a row from one on and before another; its unused entries are
-- free.
abbrev pub names : ℕ → ℕ → List ℕ
names first end = range_with_len first (min NAMED (end - first)) ++ replicate (NAMED - (end - first)) FREE_SECTOR

-- The numbers in so many DIFAT sectors in a row: in each the FAT sectors that it names, and then the next DIFAT sector.
abbrev pub difat_numbers : ℕ → ℕ → ℕ → ℕ → List ℕ
difat_numbers zero at first end = []
difat_numbers (suc n) at first end = (names first end ++ start (at + 1) n ∷ [])
    ++ difat_numbers n (at + 1) (first + NAMED) end

-- what the FAT says of its own sectors and the DIFAT's
abbrev pub own_entries : ℕ → List ℕ
own_entries f = replicate f FAT_SECTOR ++ replicate (difat_sectors f) DIFAT_SECTOR

-- the file of these parts, with f FAT sectors
unfoldable pub image : ℕ → Parts → List ℕ
image f p = header_bytes (record {
  fat_count = f;
  fat = range_with_len 0 (min f LISTED);
  first_difat = start f (difat_sectors f);
  difat_count = difat_sectors f;
  first_directory = behind_fat f;
  first_mini_fat = start (behind_fat f + p.directory_count) p.mini_fat_count;
  mini_fat_count = p.mini_fat_count;
})
    ++ table_bytes f (own_entries f ++ runs (behind_fat f) (counts p))
    ++ flat_map (to_le_bytes w32) (difat_numbers (difat_sectors f) f LISTED f)
    ++ p.directory
    ++ table_bytes p.mini_fat_count (runs 0 p.minis)
    ++ p.mini_stream
    ++ whole_pieces 512 p.longs

-- where the mini stream starts
abbrev pub mini_stream_start : ℕ → Parts → ℕ
mini_stream_start f p = start (behind_fat f + p.directory_count + p.mini_fat_count) p.mini_stream_count

-- the first sector behind it
abbrev pub longs_start : ℕ → Parts → ℕ
longs_start f p = behind_fat f + p.directory_count + p.mini_fat_count + p.mini_stream_count
