use Rattle.std.proofs.Common.{◌≡◌, get_or, rules, arith}
use Rattle.tell_maps.proofs.Told.{all_gathered, gathered}
use Rattle.tell_maps.proofs.streams.+gathering.Goals as goal

pub push_below-loop-part-preserved : goal.push_below-loop-part-preserved
push_below-loop-part-preserved t c =
    let items = c.deref-part-items.result.now in
    let p = c.part-item.result in
    let here : get_or items c.loop-part.part-index p ≡ p = search (rules, c.part-item.is) in
    gathered c.args.table.now c.loop-part.sectors.items c.push_part.new.sectors.items _ items
    c.args.outline.now.parts.items c.loop-part.part-index p
    c.deref-part-items.ensures.value c.loop-part-test.true here c.in_ok-push_part.ensures c.loop-part.invariant

pub push_below-returns : goal.push_below-returns
push_below-returns t c =
    all_gathered c.args.table.now c.args.outline.now c.deref-part-items.result.now c.loop-part.part-index
    c.args.sectors.now.items c.loop-part.sectors.items c.deref-part-items.ensures.value (omega arith)
    c.loop-part.invariant
