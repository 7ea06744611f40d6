use Rattle.std.proofs.Common.{◌<◌, [], ℕ, get_or}
use Rattle.tell_chains.specs.Streams.{IsSparedBy}
use Rattle.tell_chains.specs.declared.streams.Stream.{Stream}
use Rattle.tell_chains.proofs.chains.find_at_fault.Given as goal

abbrev pub invariant-loop-stream : goal.invariant-loop-stream
invariant-loop-stream l = (k : ℕ) (d : Stream) → k < l.stream-index
    → IsSparedBy l.parts [] l.fault (get_or l.streams k d)
