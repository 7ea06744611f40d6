-- What is written of the sectors of a file.
use Rattle.std.specs.Prelude.{◌≤◌, ℕ, List, Option, length}
use Rattle.std.specs.Io.KnownBytes.{Appends}
use Rattle.cfb_entries.specs.Tree.{Tree}
use Rattle.cfb_file.specs.Denotes.{Denotes}
use Rattle.cfb_file.specs.Outline.{outline_of}
use Rattle.tell_maps.specs.Maps.{mapped}
use Rattle.text_io.specs.Input.{most}

-- The map was written: the file denotes a tree, whose parts lie in it by a layout and take some of its sectors, and the
-- map is that of this layout and of these sectors. It has no more bytes than are taken.
pub record Maps (file : List ℕ) (old new : Option (List ℕ)) : Type 0 where
  pub t : Tree
  pub few : length file ≤ most
  pub written : ∥ ((d : Denotes file t) × Appends old new (mapped file d.layout d.used.sectors (outline_of t))) ∥₁
