-- The file of a tree's parts denotes the tree.
use Rattle.cfb_entries.specs.Tree.{Tree}
use Rattle.cfb_entries.specs.Whole.{IsTree}
use Rattle.cfb_file.specs.Denotes.{Denotes}
use Rattle.cfb_layout.specs.Directory.{IsSpelled, balanced, parts_of}
use Rattle.cfb_layout.specs.Image.{image}
use Rattle.cfb_layout.proofs.Contents.{image-denotes}
use Rattle.write_parts.specs.Counted.{AreEnough}
use Rattle.write_parts.specs.declared.counts.Counts.{Counts}

pub file_denotes : (c : Counts) (t : Tree) → AreEnough c t → IsSpelled t → IsTree 32 t
    → Denotes (image c.fat (parts_of balanced c.fat t)) t
file_denotes c t are spelled whole = image-denotes c.fat t
    (record { whole = whole; spelled = spelled; few = are.counts.few_sectors; covered = are.covered })
