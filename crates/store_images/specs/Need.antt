-- How long a file is that is laid out anew.
use Rattle.std.specs.Prelude.{ℕ, ◌+◌, ◌*◌}
use Rattle.cfb_entries.specs.Tree.{Tree}
use Rattle.cfb_layout.specs.Image.{behind_fat}
use Rattle.cfb_file.specs.Need.{data_sectors, fat_sectors}

-- the header, the sectors of the tree, and the least FAT that covers them, with its DIFAT
abbrev pub length_anew : Tree → ℕ
length_anew t = 512 * (1 + (behind_fat (fat_sectors (data_sectors t)) + data_sectors t))
