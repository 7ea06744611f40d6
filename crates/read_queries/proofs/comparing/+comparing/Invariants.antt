use Rattle.std.proofs.Common.{◌≡◌, ◌↔◌, drop}
use Rattle.tree_storage.specs.View.{children}
use Rattle.read_outlines.specs.View.{contents, shown_parts}
use Rattle.read_queries.proofs.comparing.+comparing.Given as goal

-- what is left of the one and of the other is the same just where all is
abbrev pub invariant-is_shown-loop-part : goal.invariant-is_shown-loop-part
invariant-is_shown-loop-part l =
    (children l.children ≡ shown_parts (contents l.fat l.mini) (drop l.part-index l.part-items))
    ↔ (children l.storage.children.entries ≡ shown_parts (contents l.fat l.mini) l.part-items)
