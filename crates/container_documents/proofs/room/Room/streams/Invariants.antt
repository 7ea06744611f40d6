use Rattle.std.proofs.Common.{◌+◌, ◌≡◌, drop, min}
use Rattle.cfb_file.specs.Limits.{MANY}
use Rattle.cfb_file.specs.Need.{long_pieces, short_pieces}
use Rattle.container_documents.specs.Sums.{one, streams_sum}
use Rattle.container_documents.proofs.room.Room.streams.Given as goal

abbrev pub invariant-loop-stream : goal.invariant-loop-stream
invariant-loop-stream l = record {
  entries : min MANY (l.room.entries + streams_sum one (drop l.stream-index l.streams))
      ≡ min MANY (l.fn.self.entries + streams_sum one l.streams);
  minis : min MANY (l.room.minis + streams_sum short_pieces (drop l.stream-index l.streams))
      ≡ min MANY (l.fn.self.minis + streams_sum short_pieces l.streams);
  longs : min MANY (l.room.longs + streams_sum long_pieces (drop l.stream-index l.streams))
      ≡ min MANY (l.fn.self.longs + streams_sum long_pieces l.streams);
}
