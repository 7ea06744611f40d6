use Rattle.std.proofs.Common.{◌≡◌, ◌+◌, ◌++◌, ◌-◌, ◌∙◌, [], ap, rules}
use Rattle.cfb_layout.specs.Image.{difat_numbers}
use Rattle.write_parts.proofs.Lists.{difat_none, difat_pushed, difat_whole}
use Rattle.write_parts.proofs.front.difat_table.Goals as goal

pub loop-k-init : goal.loop-k-init
loop-k-init c =
    let none : c.new-numbers.result.items ≡ [] = search rules in
    ap (λ xs. xs ++ difat_numbers (c.args.difat_count - 0) (c.args.fat_count + 0) 109 c.args.fat_count) none
    ∙ difat_none c.args.difat_count c.args.fat_count

pub loop-k-preserved : goal.loop-k-preserved
loop-k-preserved c =
    difat_pushed c.loop-k.numbers.items c.push_names.new.numbers.items
    (difat_numbers c.args.difat_count c.args.fat_count 109 c.args.fat_count) c.args.difat_count c.loop-k.k
    c.args.fat_count
    c.chain_start-next.result c.loop-k-test.true c.chain_start-next.ensures c.in_ok-push_names.ensures
    c.loop-k.invariant

pub returns : goal.returns
returns c =
    difat_whole c.loop-k.numbers.items (difat_numbers c.args.difat_count c.args.fat_count 109 c.args.fat_count)
    c.args.difat_count
    c.loop-k.k c.args.fat_count c.loop-k-test.false c.loop-k.invariant
