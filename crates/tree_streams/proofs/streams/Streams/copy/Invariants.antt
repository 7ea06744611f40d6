use Rattle.std.proofs.Common.{◌≡◌, ◌++◌, drop}
use Rattle.tree_streams.proofs.streams.Streams.copy.Given as goal

abbrev pub invariant-loop-stream : goal.invariant-loop-stream
invariant-loop-stream l = l.items.items ++ drop l.stream-index l.stream-items ≡ l.stream-items
