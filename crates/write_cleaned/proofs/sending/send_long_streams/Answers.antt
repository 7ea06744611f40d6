use Rattle.cfb_entries.specs.Tree.{Tree}
use Rattle.cfb_layout.specs.Directory.{long_streams}
use Rattle.cfb_layout.specs.Image.{whole_pieces}
use Rattle.read_outlines.specs.View.{shown}
use Rattle.write_parts.proofs.Sent.{no_longs, sends_nothing}
use Rattle.read_streams.specs.Tables.{read_by}
use Rattle.write_cleaned.proofs.sending.send_long_streams.Goals as goal

pub returns-then-longs-eq0-clause-sent : goal.returns-then-longs-eq0-clause-sent
returns-then-longs-eq0-clause-sent g c = λ a known len sized counted.
    let t : Tree = shown (read_by a c.args.tables.now) c.args.outline.now in
    sends_nothing (g.W.Write.contents c.args.writer.now) c.args.waiting.now.items
    (whole_pieces 512 (long_streams t)) (no_longs t c.args.longs counted c.if-longs-eq0.true)
