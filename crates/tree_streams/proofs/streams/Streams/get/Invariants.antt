use Rattle.std.proofs.Common.{◌≡◌, drop}
use Rattle.tree_streams.specs.Streams.{bytes_of}
use Rattle.tree_streams.proofs.streams.Streams.get.Given as goal

abbrev pub invariant-loop-stream : goal.invariant-loop-stream
invariant-loop-stream l = bytes_of (drop l.stream-index l.stream-items) l.name ≡ bytes_of l.stream-items l.name
