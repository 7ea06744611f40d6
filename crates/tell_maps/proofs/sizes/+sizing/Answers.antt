use Rattle.std.proofs.Common.{◌≡◌, ◌+◌, get_or, min, rules, arith}
use Rattle.tell_maps.specs.Sizes.{MOST}
use Rattle.tell_maps.proofs.Sums.{sized_end, sized_step}
use Rattle.tell_maps.proofs.sizes.+sizing.Goals as goal

pub total-loop-part-preserved : goal.total-loop-part-preserved
total-loop-part-preserved t c =
    let items = c.deref-part-items.result.now in
    let p = c.part-item.result in
    let here : get_or items c.loop-part.part-index p ≡ p = search (rules, c.part-item.is) in
    let is : c.add-total.result ≡ min MOST (c.loop-part.total + c.size_of.result) = c.add-total.ensures in (
      omega (arith, is),
      sized_step items c.args.outline.now.parts.items c.loop-part.part-index p c.loop-part.total c.size_of.result
          c.add-total.result _
          c.deref-part-items.ensures.value c.loop-part-test.true here c.size_of.ensures c.add-total.ensures
          c.loop-part.invariant.1,
    )

pub total-returns : goal.total-returns
total-returns t c =
    sized_end c.args.outline.now c.loop-part.part-index c.loop-part.total c.deref-part-items.result.now
    c.deref-part-items.ensures.value (omega arith) c.loop-part.invariant.0 c.loop-part.invariant.1
