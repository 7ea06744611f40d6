-- A file without what lies behind the sectors that its FAT has entries for.
use Rattle.std.specs.Prelude.{ℕ, ◌+◌, ◌-◌, ◌*◌, ◌/◌, List, ◌++◌, length, min, replicate, take}
use Rattle.cfb_header.specs.Header.{fat_count}

-- how many bytes there are of the header and of the sectors with an entry that begin before the end
abbrev pub trimmed_len : List ℕ → ℕ
trimmed_len file = 512 * min (1 + 128 * fat_count file) ((length file + 511) / 512)

-- The file cut behind the sectors that its FAT has entries for, its last sector filled with zeros.
unfoldable pub trimmed : List ℕ → List ℕ
trimmed file = take (trimmed_len file) file ++ replicate (trimmed_len file - length file) 0
