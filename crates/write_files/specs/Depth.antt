-- How much stands below a child.
use Rattle.std.specs.Prelude.{ℕ}
use Rattle.cfb_entries.specs.Tree.{Tree}
use Rattle.cfb_file.specs.Need.{entries}
use Rattle.write_files.specs.declared.walks.What.{What}
use Rattle.write_files.specs.declared.walks.What.TheVariants.{Stream, Storage}

-- how many entries stand below a child
abbrev pub below : {B : Type 0} → (B → Tree) → What B → ℕ
below stands (Stream size) = 0
below stands (Storage s) = entries (stands s)
