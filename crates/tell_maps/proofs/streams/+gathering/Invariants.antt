use Rattle.std.proofs.Common.{◌≡◌, ◌++◌, drop}
use Rattle.tell_maps.specs.Streams.{parts_sectors}
use Rattle.tell_maps.proofs.streams.+gathering.Given as goal

abbrev pub invariant-push_below-loop-part : goal.invariant-push_below-loop-part
invariant-push_below-loop-part l =
    l.sectors.items ++ parts_sectors l.table (drop l.part-index l.outline.parts.items)
    ≡ l.initial.sectors.items ++ parts_sectors l.table l.outline.parts.items
