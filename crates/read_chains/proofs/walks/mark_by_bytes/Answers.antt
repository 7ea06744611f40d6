use Rattle.std.proofs.Common.{◌*◌, arith}
use Rattle.cfb_header.specs.Bytes.{u32_at}
use Rattle.read_chains.proofs.Ways.{walk_joined, walk_long}
use Rattle.read_chains.proofs.walks.mark_by_bytes.Goals as goal

pub loop-stop-preserved : goal.loop-stop-preserved
loop-stop-preserved c =
    let long = walk_long (λ n. u32_at c.args.bytes.now (4 * n)) c.args.start c.args.used.now c.loop-stop.used
    c.loop-stop.count c.loop-stop.stop c.loop-stop.invariant in
    walk_joined (λ n. u32_at c.args.bytes.now (4 * n)) c.args.start c.args.used.now c.loop-stop.used
    c.mark_row-row.new.used c.loop-stop.count c.loop-stop.stop
    c.mark_row-row.result.count c.mark_row-row.result.stop c.loop-stop.invariant c.mark_row-row.ensures.walk
    (omega (arith, long, c.mark_row-row.ensures.few, c.if-count-used.true))
