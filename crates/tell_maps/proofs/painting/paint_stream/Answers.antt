use Rattle.std.proofs.Common.{◌∙◌, cond, get_or, nat_eq, refl, arith}
use Rattle.cfb_chains.specs.Chain.{END_OF_CHAIN}
use Rattle.tell_maps.specs.Maps.{LAST, STREAM}
use Rattle.tell_maps.proofs.Cells.{paint_end, paint_step}
use Rattle.tell_maps.proofs.painting.paint_stream.Goals as goal

pub loop-n-preserved : goal.loop-n-preserved
loop-n-preserved c = (
  c.put_stream.ensures.len ∙ c.loop-n.invariant.0,
  paint_step (λ n. cond (nat_eq (get_or c.args.table.now n 0) END_OF_CHAIN) LAST STREAM) c.args.sectors.now
      c.loop-n.n-index _ c.args.cells.now.items c.loop-n.cells.items
      c.put_stream.new.cells.items (omega arith) refl c.loop-n.invariant.0 c.put_stream.ensures.each
      c.loop-n.invariant.1,
)

pub returns-clause-each : goal.returns-clause-each
returns-clause-each c =
    paint_end (λ n. cond (nat_eq (get_or c.args.table.now n 0) END_OF_CHAIN) LAST STREAM) c.args.sectors.now
    c.loop-n.n-index c.args.cells.now.items c.loop-n.cells.items (omega arith) c.loop-n.invariant.1
