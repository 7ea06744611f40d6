-- The parts of a file, one behind another, are the file.
use Rattle.std.proofs.Common.{◌≡◌, ◌+◌, ◌∙◌, ℕ, List, ◌++◌, ap, append_assoc}
use Rattle.cfb_entries.specs.Tree.{Tree}
use Rattle.cfb_file.specs.Need.{difat_sectors, directory_sectors, entries, mini_fat_sectors, mini_sectors}
use Rattle.cfb_file.specs.Need.{mini_stream_sectors}
use Rattle.cfb_layout.specs.Directory.{balanced, directory_of_tree, long_start, long_streams, parts_of, short_streams}
use Rattle.cfb_layout.specs.Image.{behind_fat, counts, difat_numbers, image, own_entries, padded, pieces_of, run, runs}
use Rattle.cfb_layout.specs.Image.{whole_pieces}
use Rattle.cfb_layout.proofs.Tables.{numbers_bytes}
use Rattle.write_parts.specs.Counted.{AreCounts}
use Rattle.write_parts.specs.Filled.{fat_numbers, mini_numbers, started}
use Rattle.write_parts.specs.Front.{header_for}
use Rattle.write_parts.specs.declared.counts.Counts.{Counts}

pub image_of : (f : ℕ) (t : Tree) (header fat difat minis : List ℕ) → header ≡ header_for f t → fat ≡ fat_numbers f t
    → difat ≡ difat_numbers (difat_sectors f) f 109 f → minis ≡ mini_numbers t
    → header ++ numbers_bytes fat ++ numbers_bytes difat ++ directory_of_tree balanced f t ++ numbers_bytes minis
    ++ padded 512 (whole_pieces 64 (short_streams t)) ++ whole_pieces 512 (long_streams t)
    ≡ image f (parts_of balanced f t)
unfolding image
image_of f t header fat difat minis h a b m =
    λ i. h i ++ numbers_bytes (a i) ++ numbers_bytes (b i) ++ directory_of_tree balanced f t ++ numbers_bytes (m i)
    ++ padded 512 (whole_pieces 64 (short_streams t)) ++ whole_pieces 512 (long_streams t)

-- the runs of the directory, the mini FAT, the mini stream and the long streams, behind one another
pub fat_joined : (f : ℕ) (t : Tree) (table : List ℕ)
    → table ≡ own_entries f ++ run (behind_fat f) (directory_sectors t) ++ run (behind_fat f + directory_sectors t)
    (mini_fat_sectors t)
    ++ run (behind_fat f + directory_sectors t + mini_fat_sectors t) (mini_stream_sectors t)
    → table ++ runs (long_start f t) (pieces_of 512 (long_streams t)) ≡ own_entries f
    ++ runs (behind_fat f) (counts (parts_of balanced f t))
fat_joined f t table is =
    let own : List ℕ = own_entries f in
    let a : List ℕ = run (behind_fat f) (directory_sectors t) in
    let b : List ℕ = run (behind_fat f + directory_sectors t) (mini_fat_sectors t) in
    let c : List ℕ = run (behind_fat f + directory_sectors t + mini_fat_sectors t) (mini_stream_sectors t) in
    let d : List ℕ = runs (long_start f t) (pieces_of 512 (long_streams t)) in
    ap (λ ns. ns ++ d) is ∙ append_assoc (own ++ a ++ b) c d ∙ append_assoc (own ++ a) b (c ++ d)
    ∙ append_assoc own a (b ++ (c ++ d))

-- the FAT before any stream is in it, by the counts of a tree
pub as_counted : (c : Counts) (t : Tree) → AreCounts c t → started c.fat c.entries c.minis
    ≡ started c.fat (entries t) (mini_sectors t)
as_counted c t are = λ i. started c.fat (are.entries_counted i) (are.minis_counted i)
