-- Where the parts of a file lie once it is laid out.
use Rattle.std.specs.Prelude.{◌≡◌, ◌<◌, ◌≤◌, ◌+◌, ◌*◌, ℕ, List, ◌++◌, length, slice_index}
use Rattle.std.specs.List.{range_with_len, sum}
use Rattle.cfb_header.specs.Bytes.{block}
use Rattle.cfb_chains.specs.Chain.{AreDistinct}
use Rattle.cfb_header.specs.Header.{IsHeader}
use Rattle.cfb_entries.specs.Entries.{entry_at, first_of, size_of}
use Rattle.cfb_file.specs.Limits.{MOST_FAT_SECTORS}
use Rattle.cfb_file.specs.Need.{difat_sectors, pieces}
use Rattle.cfb_file.specs.Denotes.{Layout, IsLaidOut, directory_of, sectors, minis}
use Rattle.cfb_layout.specs.Image.{Parts, behind_fat, pieces_of, whole_pieces, mini_stream_start, longs_start, runs}

abbrev pub layout_of : ℕ → Parts → Layout
layout_of f p = record {
  fat = range_with_len 0 f;
  difat = range_with_len f (difat_sectors f);
  directory = range_with_len (behind_fat f) p.directory_count;
  mini_fat = range_with_len (behind_fat f + p.directory_count) p.mini_fat_count;
  mini_stream = range_with_len (behind_fat f + p.directory_count + p.mini_fat_count) p.mini_stream_count;
}

-- parts in whole sectors that f FAT sectors cover, and a root that says where the mini stream lies
pub record Fits (f : ℕ) (p : Parts) : Type 0 where
  pub whole_directory : length p.directory ≡ 512 * p.directory_count
  pub some_directory : 0 < p.directory_count
  pub table_size : p.mini_fat_count ≡ pieces 128 (sum p.minis)
  pub whole_stream : length p.mini_stream ≡ 512 * p.mini_stream_count
  pub stream_size : p.mini_stream_count ≡ pieces 512 (64 * sum p.minis)
  pub few : f ≤ MOST_FAT_SECTORS
  pub covered : longs_start f p + sum (pieces_of 512 p.longs) ≤ 128 * f
  pub root_first : first_of (entry_at p.directory 0) ≡ mini_stream_start f p
  pub root_size : size_of (entry_at p.directory 0) ≡ 64 * sum p.minis

-- the parts lie in the file, as the layout says
pub record IsPlaced (file : List ℕ) (p : Parts) (l : Layout) : Type 0 where
  pub header : IsHeader file
  pub laid_out : IsLaidOut file l
  pub directory : directory_of file l ≡ p.directory
  pub mini_count : (minis file l).count ≡ sum p.minis
  pub mini_piece : (m : ℕ) → m < sum p.minis → (minis file l).piece m ≡ block 64 p.mini_stream (64 * m)
  pub mini_next : (m : ℕ) → m < sum p.minis → (minis file l).next m ≡ slice_index (runs 0 p.minis) m

-- The long streams lie one after another from a sector on, each in whole sectors that name the next.
pub record ArePlaced (file : List ℕ) (l : Layout) (base : ℕ) (bs : List (List ℕ)) : Type 0 where
  pub there : 0 < sum (pieces_of 512 bs) → base + sum (pieces_of 512 bs) ≤ (sectors file l).count
  pub piece : (m : ℕ) → m < sum (pieces_of 512 bs) → (sectors file l).piece (base + m)
      ≡ block 512 (whole_pieces 512 bs) (512 * m)
  pub next : (m : ℕ) → m < sum (pieces_of 512 bs) → (sectors file l).next (base + m)
      ≡ slice_index (runs base (pieces_of 512 bs)) m
  pub apart : AreDistinct (l.fat ++ l.difat ++ l.directory ++ l.mini_fat ++ l.mini_stream
      ++ range_with_len base (sum (pieces_of 512 bs)))
