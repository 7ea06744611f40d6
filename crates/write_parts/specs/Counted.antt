-- What the writer counts of a tree.
use Rattle.std.specs.Prelude.{◌≡◌, ◌≤◌, ◌<◌, ◌+◌, ◌*◌, min}
use Rattle.cfb_entries.specs.Tree.{Tree}
use Rattle.cfb_file.specs.Limits.{MANY, MOST_FAT_SECTORS}
use Rattle.cfb_layout.specs.Image.{behind_fat}
use Rattle.cfb_file.specs.Need.{data_sectors, entries, fat_sectors, long_sectors, mini_sectors, needed}
use Rattle.write_parts.specs.declared.counts.Counts.{Counts}

-- each sort of room up to the bound, and as many FAT sectors as cover what was counted
pub record IsCounted (c : Counts) (t : Tree) : Type 0 where
  pub entries_counted : c.entries ≡ min MANY (entries t)
  pub minis_counted : c.minis ≡ min MANY (mini_sectors t)
  pub longs_counted : c.longs ≡ min MANY (long_sectors t)
  pub covering : c.fat ≡ fat_sectors (needed c.entries c.minis c.longs)

-- the counts of a tree
pub record AreCounts (c : Counts) (t : Tree) : Type 0 where
  pub few_sectors : c.fat ≤ MOST_FAT_SECTORS
  pub few_entries : c.entries + 1 < MANY
  pub few_minis : c.minis < MANY
  pub entries_counted : c.entries ≡ entries t
  pub minis_counted : c.minis ≡ mini_sectors t
  pub longs_counted : c.longs ≡ long_sectors t

-- and as many FAT sectors as cover it, and no more
pub record AreEnough (c : Counts) (t : Tree) : Type 0 where
  pub counts : AreCounts c t
  pub least : c.fat ≡ fat_sectors (data_sectors t)
  pub covered : behind_fat c.fat + data_sectors t ≤ 128 * c.fat
