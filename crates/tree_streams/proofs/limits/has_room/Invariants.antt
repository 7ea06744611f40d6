use Rattle.std.proofs.Common.{◌≡◌, ◌+◌, drop}
use Rattle.tree_streams.specs.Limits.{total}
use Rattle.tree_streams.proofs.limits.has_room.Given as goal

abbrev pub invariant-loop-stream : goal.invariant-loop-stream
invariant-loop-stream l = total l.fn.streams + l.fn.more + l.left ≡ 262144 + total (drop l.stream-index l.fn.streams)
