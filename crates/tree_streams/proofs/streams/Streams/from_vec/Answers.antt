use Rattle.std.proofs.Common.{◌≡◌, ◌≤◌, ◌<◌, true, false, length, sym, ap, ◌∙◌, arith, rules}
use Rattle.std.specs.Ordering.{is_lt}
use Rattle.cfb_names.specs.Names.{name_cmp}
use Rattle.tree_streams.proofs.Ordered.{order-more, order-less}
use Rattle.tree_streams.proofs.streams.Streams.from_vec.Goals as goal

pub returns-then-not-is_lt : goal.returns-then-not-is_lt
returns-then-not-is_lt c o =
    let one : 1 ≤ c.loop-at.at = search (rules, arith) in
    let less : c.loop-at.at < length c.args.items.items = search (rules, arith) in
    let l : is_lt (name_cmp c.index.result.now.name c.index-in-loop-at.result.now.name) ≡ true =
    order-less c.args.items.items c.loop-at.at c.index.result.now c.index-in-loop-at.result.now one less
    c.index.ensures c.index-in-loop-at.ensures o in
    let e : false ≡ true = sym c.if-not-is_lt.true ∙ c.is_lt.ensures ∙ ap is_lt c.cmp.ensures ∙ l in
    absurd (search rules)

pub loop-at-preserved : goal.loop-at-preserved
loop-at-preserved c =
    let one : 1 ≤ c.loop-at.at = search (rules, arith) in
    let less : c.loop-at.at < length c.args.items.items = search (rules, arith) in
    order-more c.args.items.items c.loop-at.at c.index.result.now c.index-in-loop-at.result.now one less
    c.index.ensures c.index-in-loop-at.ensures c.loop-at.invariant
    (sym (ap is_lt c.cmp.ensures) ∙ sym c.is_lt.ensures ∙ c.if-not-is_lt.false)
