use Rattle.std.proofs.Common.{◌≡◌, ◌<◌, ◌+◌, ◌-◌, ◌++◌, ◌∷◌, [], arith, length, length-append, subst}
use Rattle.cfb_chains.specs.Fat.{followed}
use Rattle.cfb_chains.proofs.Followed.{followed_more}
use Rattle.read_streams.proofs.chains.follow.Goals as goal

pub loop-sectors-preserved : goal.loop-sectors-preserved
loop-sectors-preserved c =
    let i = c.loop-sectors.invariant in
    let table = c.args.table.now in
    let met = c.loop-sectors.sectors.items in
    let at = c.loop-sectors.at in
    let count = c.args.count in
    let lt : at < length table = omega arith in
    let some : 0 < count - length met = omega arith in
    let more : length (met ++ at ∷ []) ≡ length met + 1 = length-append met (at ∷ []) in
    let less : count - length met - 1 ≡ count - length (met ++ at ∷ []) = omega (arith, more) in
    rw c.in_ok-push.ensures.items (
      subst (λ n. (met ++ at ∷ []) ++ followed table n c.entry-at.result ≡ followed table count c.args.first) less
          (followed_more table met (count - length met) at c.entry-at.result (followed table count c.args.first) lt
          some c.entry-at.ensures i.0),
      omega (arith, more, some),
    )
