use Rattle.std.proofs.Common.{◌≢◌, ◌<◌, length, arith, below_more, get_or-set_other, get_or-set_same}
use Rattle.std.proofs.Math.ListN.{length-set}
use Rattle.cfb_header.proofs.header.read_listed.Goals as goal

pub loop-k-preserved : goal.loop-k-preserved
loop-k-preserved c = (
  rw length-set c.loop-k.invariant.0,
  below_more _ _
      (λ k h. let ne : k ≢ c.loop-k.k = omega arith in rw get_or-set_other (c.loop-k.invariant.1 k h))
      (let lt : c.loop-k.k < length c.loop-k.fat = omega arith in rw get_or-set_same c.read_u32.ensures),
)
