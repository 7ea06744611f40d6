use Rattle.std.proofs.Common.{◌≡◌, drop}
use Rattle.tree_streams.specs.Limits.{has_ole_name}
use Rattle.tree_streams.proofs.limits.has_ole_name.Given as goal

abbrev pub invariant-loop-stream : goal.invariant-loop-stream
invariant-loop-stream l = has_ole_name l.fn.streams ≡ has_ole_name (drop l.stream-index l.fn.streams)
