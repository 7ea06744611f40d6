use Rattle.std.proofs.Common.{arith}
use Rattle.message_bytes.proofs.Adding.{part_of}
use Rattle.message_bytes.proofs.encode.push_streams.Goals as goal

pub push_stream-requires : goal.push_stream-requires
push_stream-requires c = omega (
  arith,
  part_of c.args.list.now c.loop-stream.stream-index c.stream-item.result
      c.stream-item.is c.loop-stream-test.true,
)
