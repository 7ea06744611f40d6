use Rattle.std.proofs.Common.{◌≡◌, ℕ, drop}
use Rattle.tree_storage.specs.View.{children}
use Rattle.cfb_entries.specs.Whole.{AreTrees}
use Rattle.read_outlines.specs.View.{contents, shown_parts}
use Rattle.read_outlines.proofs.Followed.{followed}
use Rattle.read_outlines.proofs.filling.+filling.Given as goal

abbrev pub invariant-storage_at-loop-part : goal.invariant-storage_at-loop-part
invariant-storage_at-loop-part l = (depth : ℕ) → AreTrees depth (shown_parts (contents l.fat l.mini) l.part-items)
    → followed (children l.pairs.items) (shown_parts (contents l.fat l.mini) (drop l.part-index l.part-items))
    ≡ shown_parts (contents l.fat l.mini) l.part-items
