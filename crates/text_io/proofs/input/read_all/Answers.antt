use Rattle.std.proofs.Common.{arith}
use Rattle.text_io.proofs.Inputs.{whole-below}
use Rattle.text_io.proofs.input.read_all.Goals as goal

pub returns-clause-whole : goal.returns-clause-whole
returns-clause-whole g c =
    whole-below (g.R.Read.remaining c.args.reader.now) 134217729 c.new-bytes.result.items
    c.read_to_end.new.buf.items c.new-bytes.ensures.items
    (rw c.take-limited.ensures.limit at (rw c.take-limited.ensures.inner at c.in-Ok.ensures.bytes))
    (omega (arith, c.read_to_end.new.buf.ok.0))
