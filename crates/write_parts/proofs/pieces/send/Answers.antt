use Rattle.write_parts.proofs.Sent.{sends_into, sends_through}
use Rattle.write_parts.proofs.pieces.send.Goals as goal

pub returns-then-bytes-ge-PIECE : goal.returns-then-bytes-ge-PIECE
returns-then-bytes-ge-PIECE g c =
    sends_through (g.W.Write.contents c.args.writer.now) (g.W.Write.contents c.write_waiting.new.writer)
    (g.W.Write.contents c.write.new.writer)
    c.args.waiting.now.items c.write_waiting.new.waiting.items c.args.bytes.now
    c.in_ok-write_waiting.ensures.none c.in_ok-write_waiting.ensures.written c.in_ok-write.ensures

pub returns : goal.returns
returns g c =
    sends_into (g.W.Write.contents c.args.writer.now) (g.W.Write.contents c.make_room.new.writer)
    c.args.waiting.now.items c.make_room.new.waiting.items c.extend_from_slice.new.self.items c.args.bytes.now
    c.in_ok-make_room.ensures c.in_ok-extend_from_slice.ensures.items
