-- What was opened of a file.
use Rattle.std.specs.Prelude.{◌≡◌, ℕ, List, length}
use Rattle.cfb_entries.specs.Tree.{Tree}
use Rattle.read_outlines.specs.Places.{IsPlaced}
use Rattle.read_streams.specs.Tables.{AreTablesOf}
use Rattle.write_cleaned.specs.declared.reading.Opened.{Opened}

-- The file denotes the tree, the outline is the tree's and tells where its streams lie, and the tables find them.
pub record IsOpenedOf (file : List ℕ) (t : Tree) (opened : Opened) : Type 0 where
  pub placed : IsPlaced file t opened.outline
  pub tables : AreTablesOf file placed.denotes.layout opened.tables
  pub len : length file ≡ opened.tables.len
