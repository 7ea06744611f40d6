-- What stands before the streams in a file.
use Rattle.std.specs.Prelude.{◌++◌, ℕ, List}
use Rattle.std.specs.Int.{to_le_bytes, w32}
use Rattle.std.specs.List.{flat_map}
use Rattle.cfb_entries.specs.Tree.{Tree}
use Rattle.cfb_layout.specs.Directory.{balanced, directory_of_tree}
use Rattle.cfb_layout.specs.Image.{difat_numbers}
use Rattle.cfb_file.specs.Limits.{LISTED}
use Rattle.cfb_file.specs.Need.{difat_sectors}
use Rattle.write_parts.specs.Filled.{fat_numbers, mini_numbers}
use Rattle.write_parts.specs.Front.{header_for}

-- the bytes before the streams in the file of a tree with f FAT sectors: its header, its tables and its directory
abbrev pub front_bytes : ℕ → Tree → List ℕ
front_bytes f t =
    header_for f t ++ flat_map (to_le_bytes w32) (fat_numbers f t) ++ flat_map (to_le_bytes w32)
    (difat_numbers (difat_sectors f) f LISTED f)
    ++ directory_of_tree balanced f t ++ flat_map (to_le_bytes w32) (mini_numbers t)
