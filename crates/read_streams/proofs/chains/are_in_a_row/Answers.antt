use Rattle.std.proofs.Common.{◌*◌, arith}
use Rattle.cfb_header.specs.Bytes.{u32_at}
use Rattle.read_streams.proofs.Rows.{row_end, row_more}
use Rattle.read_streams.proofs.chains.are_in_a_row.Goals as goal

pub loop-left-preserved : goal.loop-left-preserved
loop-left-preserved c = λ h.
    c.loop-left.invariant (row_more (λ n. u32_at c.args.mini_fat.now (4 * n)) c.loop-left.at c.number-next.result
    c.loop-left.left (omega arith) c.number-next.ensures (omega arith) h)

pub returns : goal.returns
returns c = λ _. c.loop-left.invariant (row_end (λ n. u32_at c.args.mini_fat.now (4 * n)) c.loop-left.at
    c.loop-left.left (omega arith))
