use Rattle.std.proofs.Common.{take}
use Rattle.tree_streams.specs.Streams.{AreInOrder}
use Rattle.tree_streams.proofs.streams.Streams.from_vec.Given as goal

abbrev pub invariant-loop-at : goal.invariant-loop-at
invariant-loop-at l = AreInOrder (take l.at l.items.items)
