use Rattle.std.proofs.Common.{◌≡◌, map, take}
use Rattle.tree_rising.specs.Spots.{bytes_at}
use Rattle.tree_rising.proofs.lists.ByteLists.into_parts.Given as goal

-- the parts of the spots so far
abbrev pub invariant-loop-spot : goal.invariant-loop-spot
invariant-loop-spot l = l.parts.items ≡ map (bytes_at l.blocks.items) (take l.spot-index l.spot-items)
