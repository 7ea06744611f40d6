use Rattle.tree_storage.specs.NodeView.{view}
use Rattle.cfb_layout.specs.Directory.{long_streams}
use Rattle.cfb_layout.specs.Image.{whole_pieces}
use Rattle.write_parts.proofs.Sent.{no_longs, sends_nothing}
use Rattle.write_files.proofs.sent_streams.send_long_streams.Goals as goal

pub returns-then-longs-eq0 : goal.returns-then-longs-eq0
returns-then-longs-eq0 g c =
    sends_nothing (g.W.Write.contents c.args.writer.now) c.args.waiting.now.items
    (whole_pieces 512 (long_streams (view c.args.root.now)))
    (no_longs (view c.args.root.now) c.args.longs c.requires c.if-longs-eq0.true)
