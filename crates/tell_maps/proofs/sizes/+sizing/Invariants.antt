use Rattle.std.proofs.Common.{◌≡◌, ◌≤◌, ◌+◌, drop, min}
use Rattle.read_outlines.specs.View.{parts_view}
use Rattle.tell_maps.specs.Maps.{sizes_of}
use Rattle.tell_maps.specs.Sizes.{MOST}
use Rattle.tell_maps.proofs.sizes.+sizing.Given as goal

abbrev pub invariant-total-loop-part : goal.invariant-total-loop-part
invariant-total-loop-part l = (l.total ≤ MOST)
    × (min MOST (l.total + sizes_of (parts_view (drop l.part-index l.outline.parts.items)))
    ≡ min MOST (sizes_of (parts_view l.outline.parts.items)))
