-- The numbers that bound a compound file (MS-CFB 2.2, 2.5).
use Rattle.std.specs.Prelude.{ℕ, ◌+◌, ◌*◌}
pub use Rattle.cfb_header.specs.Header.{LISTED, NAMED, MOST_FAT_SECTORS}

-- a stream of fewer bytes lies in the mini stream
abbrev pub CUTOFF : ℕ
CUTOFF = 4096

-- more entries, mini sectors or sectors than any file has whose FAT is within the limit
abbrev pub MANY : ℕ
MANY = 1024 * MOST_FAT_SECTORS

-- the most bytes of such a file: its header, and a sector for each entry of its FAT
abbrev pub MOST_BYTES : ℕ
MOST_BYTES = 512 * (1 + 128 * MOST_FAT_SECTORS)
