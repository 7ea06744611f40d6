-- The files that the writer makes.
use Rattle.std.specs.Prelude.{◌≡◌, ℕ, List}
use Rattle.cfb_entries.specs.Tree.{Tree}
use Rattle.cfb_layout.specs.Directory.{balanced, parts_of}
use Rattle.cfb_layout.specs.Image.{image}
use Rattle.cfb_file.specs.Need.{data_sectors, fat_sectors}

-- The file of a tree: its parts, one behind another, behind the least FAT that covers them. Each byte in it is of the
-- tree or zero or free: nothing else stands in it.
abbrev pub file_of : Tree → List ℕ
file_of t = image (fat_sectors (data_sectors t)) (parts_of balanced (fat_sectors (data_sectors t)) t)

-- a file is that of a tree
abbrev pub IsLaidOut : Tree → List ℕ → Type 0
IsLaidOut t file = file ≡ file_of t
