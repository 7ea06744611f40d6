-- How long the file of a tree is.
use Rattle.std.proofs.Common.{◌≡◌, ◌≤◌, ◌+◌, ◌-◌, ◌*◌, ◌∙◌, ℕ, zero, suc, List, ◌++◌, ap, arith, length, length-append}
use Rattle.std.proofs.Common.{lit≤, min, refl, replicate}
use Rattle.std.proofs.lemmas.List.FromFn.{length-range_with_len}
use Rattle.std.specs.List.{concat, sum}
use Rattle.cfb_header.specs.Header.{header_bytes}
use Rattle.cfb_header.proofs.Written.{length_written}
use Rattle.cfb_entries.specs.Entries.{root_name}
use Rattle.cfb_entries.specs.Written.{entry_bytes, free_entry_bytes}
use Rattle.cfb_entries.proofs.Fields.{length-entry_bytes, length-free_entry_bytes}
use Rattle.cfb_entries.specs.Tree.{Tree}
use Rattle.cfb_file.specs.Need.{data_sectors, difat_sectors, directory_sectors, entries, long_sectors, mini_fat_sectors}
use Rattle.cfb_file.specs.Need.{mini_sectors, mini_stream_sectors}
use Rattle.cfb_layout.specs.Directory.{balanced, directory_of_tree, entries_below, long_start, parts_of, root_says}
use Rattle.cfb_layout.specs.Directory.{short_streams}
use Rattle.cfb_layout.specs.Image.{Parts, behind_fat, counts, difat_numbers, image, own_entries, runs, table_bytes}
use Rattle.cfb_layout.specs.Image.{whole_pieces}
use Rattle.cfb_layout.proofs.Contents.{counts-sum}
use Rattle.cfb_layout.proofs.ContentsNext.{longs-sum, shorts-sum}
use Rattle.cfb_layout.proofs.ContentsPieces.{length-padded, length-whole, width-64, width-512}
use Rattle.cfb_layout.proofs.ListsLaid.{length-difat}
use Rattle.cfb_layout.proofs.Placed.{header_value, length-own}
use Rattle.cfb_layout.proofs.PlacedParts.{IsJoined, joined_parts}
use Rattle.cfb_layout.proofs.Tables.{length-numbers_bytes, length-runs, length-table_bytes, numbers_bytes}

length-free : (n : ℕ) → length (concat (replicate n free_entry_bytes)) ≡ 128 * n
length-free zero = refl
length-free (suc n) = omega (
  arith,
  length-append free_entry_bytes (concat (replicate n free_entry_bytes)),
  length-free_entry_bytes,
  length-free n,
)

module _ (f : ℕ) (t : Tree) where
  abbrev p : Parts
  p = parts_of balanced f t

  -- the directory, where its entries are whole
  pub length-directory : length (root_says balanced f t).class ≡ 16
      → length (entries_below balanced 0 0 (long_start f t) t) ≡ 128 * entries t
      → length (directory_of_tree balanced f t) ≡ 512 * directory_sectors t
  length-directory class below =
      let root : List ℕ = entry_bytes root_name (root_says balanced f t) in
      let each : List ℕ = entries_below balanced 0 0 (long_start f t) t in
      let free : List ℕ = concat (replicate (4 * directory_sectors t - (1 + entries t)) free_entry_bytes) in
      let r : length root ≡ 128 = length-entry_bytes root_name (root_says balanced f t) (lit≤ tt) class in
      let a : length (root ++ (each ++ free)) ≡ length root + length (each ++ free) =
      length-append root (each ++ free) in
      let b : length (each ++ free) ≡ length each + length free = length-append each free in
      let e : length free ≡ 128 * (4 * directory_sectors t - (1 + entries t)) =
      length-free (4 * directory_sectors t - (1 + entries t)) in
      omega (arith, r, a, b, e, below)

  mini-counted : sum p.minis ≡ mini_sectors t
  mini-counted = shorts-sum t

  length-mini_stream : length p.mini_stream ≡ 512 * mini_stream_sectors t
  length-mini_stream = omega (
    arith,
    length-padded 512 width-512 (whole_pieces 64 (short_streams t)),
    length-whole 64 width-64 (short_streams t),
    mini-counted,
  )

  length-mini_fat : length (table_bytes (mini_fat_sectors t) (runs 0 p.minis)) ≡ 512 * mini_fat_sectors t
  length-mini_fat = length-table_bytes (mini_fat_sectors t) (runs 0 p.minis)
      (omega (arith, length-runs 0 p.minis, mini-counted))

  length-longs : length (whole_pieces 512 p.longs) ≡ 512 * long_sectors t
  length-longs = length-whole 512 width-512 p.longs ∙ ap (λ n. 512 * n) (longs-sum t)

  -- the FAT
  abbrev fat : List ℕ
  fat = own_entries f ++ runs (behind_fat f) (counts p)

  pub length-fat : length fat ≡ behind_fat f + data_sectors t
  length-fat =
      length-append (own_entries f) (runs (behind_fat f) (counts p))
      ∙ omega (arith, length-own f, length-runs (behind_fat f) (counts p), counts-sum balanced f t)

  -- a header, and a sector for each that the tree, the FAT and the DIFAT need
  pub length-image : length (directory_of_tree balanced f t) ≡ 512 * directory_sectors t
      → behind_fat f + data_sectors t ≤ 128 * f
      → length (image f p) ≡ 512 * (1 + behind_fat f + data_sectors t)
  unfolding image
  length-image directory covered =
      let numbers : List ℕ = difat_numbers (difat_sectors f) f 109 f in
      let listed : length (header_value f p).fat ≤ 109 = omega (arith, length-range_with_len 0 (min f 109)) in
      let j : IsJoined (image f p) (table_bytes f fat) (numbers_bytes numbers) p.directory
      (table_bytes p.mini_fat_count (runs 0 p.minis)) p.mini_stream
      (whole_pieces 512 p.longs) f (difat_sectors f) (directory_sectors t) (mini_fat_sectors t)
      (mini_stream_sectors t) (long_sectors t) =
      joined_parts (image f p) (header_bytes (header_value f p)) (table_bytes f fat) (numbers_bytes numbers) p.directory
      (table_bytes p.mini_fat_count (runs 0 p.minis)) p.mini_stream (whole_pieces 512 p.longs) f (difat_sectors f)
      (directory_sectors t) (mini_fat_sectors t)
      (mini_stream_sectors t) (long_sectors t) refl (length_written (header_value f p) listed)
      (length-table_bytes f fat (omega (arith, length-fat, covered)))
      (omega (arith, length-numbers_bytes numbers, length-difat (difat_sectors f) f 109 f))
      directory length-mini_fat length-mini_stream length-longs in
      j.size ∙ omega arith
