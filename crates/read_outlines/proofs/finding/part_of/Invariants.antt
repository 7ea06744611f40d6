use Rattle.std.proofs.Common.{◌≡◌, ℕ, List, drop}
use Rattle.tree_storage.specs.Change.{find}
use Rattle.read_outlines.specs.View.{shown_parts}
use Rattle.read_outlines.specs.declared.outline.Place.{Place}
use Rattle.read_outlines.proofs.finding.part_of.Given as goal

abbrev pub invariant-loop-part : goal.invariant-loop-part
invariant-loop-part l = (content : Place → List ℕ)
    → find l.wanted (shown_parts content (drop l.part-index l.part-items))
    ≡ find l.wanted (shown_parts content l.part-items)
