use Rattle.std.proofs.Common.{take, sym, arith}
use Rattle.std.proofs.lemmas.List.{take_more}
use Rattle.cfb_chains.proofs.Marks.{set_all-append}
use Rattle.read_chains.proofs.fat.Fat.mark.Goals as goal

pub loop-n-preserved : goal.loop-n-preserved
loop-n-preserved c = (
  c.loop-n.invariant.0,
  c.loop-n.invariant.1,
  rw c.loop-n.invariant.2
      (rw (take_more c.args.sectors.now c.loop-n.n-index 0 (omega arith))
      (sym (set_all-append c.self.inside.used.items (take c.loop-n.n-index c.args.sectors.now) _))),
)
