-- The room that a tree needs in a compound file (MS-CFB 2.3 to 2.6).
use Rattle.std.specs.Prelude.{◌≤◌, ◌+◌, ◌-◌, ◌*◌, ◌/◌, ℕ, List, length, if◌then◌else◌, nat_lt}
use Rattle.cfb_entries.specs.Tree.{Tree, Children, tree, none, stream, storage}
use Rattle.cfb_file.specs.Limits.{CUTOFF, LISTED, NAMED}

-- so many pieces of a width as hold so many bytes
abbrev pub pieces : ℕ → ℕ → ℕ
pieces width bytes = (bytes + (width - 1)) / width

-- the directory's entries, without the root's
abbrev mutual
  pub entries : Tree → ℕ
  entries (tree class state cs) = entries_of cs

  pub entries_of : Children → ℕ
  entries_of none = 0
  entries_of (stream k n b cs) = 1 + entries_of cs
  entries_of (storage k n t cs) = 1 + entries t + entries_of cs

-- the sum over all streams
abbrev mutual
  pub over_streams : (List ℕ → ℕ) → Tree → ℕ
  over_streams f (tree class state cs) = over_streams_of f cs

  pub over_streams_of : (List ℕ → ℕ) → Children → ℕ
  over_streams_of f none = 0
  over_streams_of f (stream k n b cs) = f b + over_streams_of f cs
  over_streams_of f (storage k n t cs) = over_streams f t + over_streams_of f cs

-- a stream of 4,096 bytes or more lies in sectors, a shorter one in mini sectors
abbrev pub short_pieces : List ℕ → ℕ
short_pieces b = if nat_lt (length b) CUTOFF then pieces 64 (length b) else 0

abbrev pub long_pieces : List ℕ → ℕ
long_pieces b = if nat_lt (length b) CUTOFF then 0 else pieces 512 (length b)

abbrev pub mini_sectors : Tree → ℕ
mini_sectors t = over_streams short_pieces t

abbrev pub directory_sectors : Tree → ℕ
directory_sectors t = pieces 4 (1 + entries t)

abbrev pub mini_fat_sectors : Tree → ℕ
mini_fat_sectors t = pieces 128 (mini_sectors t)

abbrev pub mini_stream_sectors : Tree → ℕ
mini_stream_sectors t = pieces 512 (64 * mini_sectors t)

abbrev pub long_sectors : Tree → ℕ
long_sectors t = over_streams long_pieces t

-- the same sums for so many entries below the root, mini sectors and sectors of long streams
abbrev pub needed : ℕ → ℕ → ℕ → ℕ
needed entries minis longs = pieces 4 (1 + entries) + pieces 128 minis + pieces 512 (64 * minis) + longs

-- all sectors but those of the FAT and the DIFAT
abbrev pub data_sectors : Tree → ℕ
data_sectors t = directory_sectors t + mini_fat_sectors t + mini_stream_sectors t + long_sectors t

-- the DIFAT sectors that name the FAT sectors for which the header has no room (MS-CFB 2.5)
abbrev pub difat_sectors : ℕ → ℕ
difat_sectors f = pieces NAMED (f - LISTED)

-- The least number of FAT sectors whose entries cover these sectors, themselves and the DIFAT's. Each DIFAT sector
-- needs an entry of its own: x of them are enough for d sectors where d + x ≤ 127 * (109 + 127 * x).
abbrev pub fat_sectors : ℕ → ℕ
fat_sectors d = pieces 127 (d + pieces 16128 (d - 13843))

pub record IsLeastFat (d f : ℕ) : Type 0 where
  pub covers : f + difat_sectors f + d ≤ 128 * f
  pub least : (g : ℕ) → g + difat_sectors g + d ≤ 128 * g → f ≤ g

abbrev pub LeastFat : Type 0
LeastFat = (d : ℕ) → IsLeastFat d (fat_sectors d)
