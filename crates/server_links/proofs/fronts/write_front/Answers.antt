use Rattle.server_links.proofs.Parts.{more_written, none_written}
use Rattle.server_links.proofs.fronts.write_front.Goals as goal
use Rattle.server_links.proofs.fronts.write_front.Goals.{in-Ok, in-Err+else-ne}

pub loop-preserved : goal.loop-preserved
loop-preserved g c = elim c.match-write.branch [
  | in-Ok w ↦ more_written _ (g.W.Write.contents c.loop.writer) _ c.args.bytes.now c.loop.at w.in-Ok.n
      c.match-write.at c.loop.invariant.0 w.at-is w.in-Ok.ensures.bound
      c.loop.invariant.1 w.in-Ok.ensures.bytes
  | in-Err+else-ne w ↦ none_written _ (g.W.Write.contents c.loop.writer) _ c.args.bytes.now c.loop.at
      c.match-write.at c.loop.invariant.0 w.at-is c.loop.invariant.1 w.in-Err.ensures.bytes
]
