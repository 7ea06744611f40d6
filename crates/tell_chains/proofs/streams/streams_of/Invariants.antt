use Rattle.tell_chains.specs.Streams.{AreStreamsBelow}
use Rattle.tell_chains.proofs.streams.streams_of.Given as goal

abbrev pub invariant-loop-id : goal.invariant-loop-id
invariant-loop-id l = AreStreamsBelow l.directory l.met.ids.items l.met.seen.items l.id l.streams.items
