-- The tables of a tree's file as lists of numbers.
use Rattle.std.specs.Prelude.{◌+◌, ◌-◌, ◌*◌, ◌++◌, ℕ, List, length, replicate}
use Rattle.cfb_chains.specs.Chain.{FREE_SECTOR}
use Rattle.cfb_entries.specs.Tree.{Tree}
use Rattle.cfb_layout.specs.Directory.{balanced, parts_of, short_streams}
use Rattle.cfb_layout.specs.Image.{behind_fat, counts, own_entries, pieces_of, run, runs}
use Rattle.cfb_file.specs.Need.{mini_fat_sectors, pieces}

-- a table in so many sectors, its unused entries free
abbrev pub filled : ℕ → List ℕ → List ℕ
filled sectors ns = ns ++ replicate (128 * sectors - length ns) FREE_SECTOR

-- a FAT of f sectors before any stream is in it: its own entries, and behind them the runs of the directory, the mini
-- FAT and the mini stream, for so many entries below the root and mini sectors
abbrev pub started : ℕ → ℕ → ℕ → List ℕ
started f entries minis =
    own_entries f ++ run (behind_fat f) (pieces 4 (1 + entries)) ++ run (behind_fat f + pieces 4 (1 + entries))
    (pieces 128 minis)
    ++ run (behind_fat f + pieces 4 (1 + entries) + pieces 128 minis) (pieces 512 (64 * minis))

-- the numbers of the FAT of a tree with f sectors, and those of its mini FAT
abbrev pub fat_numbers : ℕ → Tree → List ℕ
fat_numbers f t = filled f (own_entries f ++ runs (behind_fat f) (counts (parts_of balanced f t)))

abbrev pub mini_numbers : Tree → List ℕ
mini_numbers t = filled (mini_fat_sectors t) (runs 0 (pieces_of 64 (short_streams t)))
