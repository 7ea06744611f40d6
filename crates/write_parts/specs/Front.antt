-- What stands before the streams in a file, as the writer keeps it until it is sent.
use Rattle.std.specs.Prelude.{◌≡◌, ◌+◌, ℕ, List, min}
use Rattle.std.specs.List.{range_with_len}
use Rattle.cfb_header.specs.Header.{header_bytes}
use Rattle.cfb_entries.specs.Tree.{Tree}
use Rattle.cfb_layout.specs.Image.{behind_fat, difat_numbers, start}
use Rattle.cfb_file.specs.Limits.{LISTED}
use Rattle.cfb_file.specs.Need.{difat_sectors, directory_sectors, mini_fat_sectors}
use Rattle.write_parts.specs.Filled.{fat_numbers, mini_numbers}
use Rattle.write_parts.specs.Leads.{IsDirectory}
use Rattle.write_parts.specs.declared.front.Front.{Front}

-- the header of the file of a tree with f FAT sectors
abbrev pub header_for : ℕ → Tree → List ℕ
header_for f t = header_bytes (record {
  fat_count = f;
  fat = range_with_len 0 (min f LISTED);
  first_difat = start f (difat_sectors f);
  difat_count = difat_sectors f;
  first_directory = behind_fat f;
  first_mini_fat = start (behind_fat f + directory_sectors t) (mini_fat_sectors t);
  mini_fat_count = mini_fat_sectors t;
})

-- the parts of the front of its file
pub record IsFront (p : Front) (f : ℕ) (t : Tree) : Type 0 where
  pub header : p.header.items ≡ header_for f t
  pub fat : p.tables.fat.items ≡ fat_numbers f t
  pub difat : p.difat.items ≡ difat_numbers (difat_sectors f) f LISTED f
  pub directory : IsDirectory p.directory f t
  pub minis : p.tables.minis.items ≡ mini_numbers t
