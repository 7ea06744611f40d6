-- A tree that is built from a description. Once its streams have more bytes than any file holds, their bytes are no
-- longer kept: the lines that follow can be refused by the outline alone, and then the whole for its size.
use Rattle.std.specs.Prelude.{◌≡◌, ◌≤◌, ◌<◌, ℕ, length, Result, Ok, Err}
use Rattle.tree_storage.specs.Kept.{Kept, kept}
use Rattle.cfb_file.specs.Limits.{MOST_BYTES}
use Rattle.cfb_file.specs.Need.{over_streams}
use Rattle.tree_descriptions.specs.Outline.{outline}
use Rattle.tree_descriptions.specs.Description.{Refuses}
use Rattle.tree_descriptions.specs.declared.fault.LineFault.{LineFault}
use Rattle.tree_descriptions.specs.declared.building.Building.{Building}
use Rattle.tree_descriptions.specs.declared.building.Described.{Described}
use Rattle.tree_descriptions.specs.declared.building.Described.TheVariants.{Whole, Outline}

-- the most bytes that a file has
abbrev pub room : ℕ
room = MOST_BYTES

-- what is built of a tree
pub record IsBuilt (b : Building) (k : Kept) : Type 0 where
  pub same : outline (kept b.tree).now ≡ outline k.now
  pub spent : b.spent ≤ over_streams length k.now
  pub exact : b.spent ≤ room → kept b.tree ≡ k

-- what a call builds, given what it is told to make of the tree
abbrev pub Builds : Result Kept LineFault → Result (Unit {0}) LineFault → Building → Type 0
Builds told (Ok u) b = (k : Kept) × (told ≡ Ok k) × IsBuilt b k
Builds told (Err fault) b = Refuses told fault

-- the tree, or its outline where its streams have more bytes than a file
abbrev pub IsDescribed : Kept → Described → Type 0
IsDescribed k (Whole t) = kept t ≡ k
IsDescribed k (Outline t) = (outline (kept t).now ≡ outline k.now) × (room < over_streams length k.now)
