use Rattle.std.proofs.Common.{◌≡◌, ◌∙◌, ◌+◌, ◌-◌, ◌++◌, ◌∷◌, [], ap, arith, rules}
use Rattle.std.specs.List.{range_with_len}
use Rattle.cfb_layout.proofs.Tables.{range_more}
use Rattle.write_parts.proofs.tables.push_range.Goals as goal

pub loop-n-preserved : goal.loop-n-preserved
loop-n-preserved c =
    let pushed : c.push.new.self.items ≡ c.loop-n.numbers.items ++ c.loop-n.n ∷ [] = search rules in
    ap (λ xs. xs ++ range_with_len (c.loop-n.n + 1) (c.args.at + c.args.count - (c.loop-n.n + 1))) pushed
    ∙ range_more c.loop-n.numbers.items c.loop-n.n (c.args.at + c.args.count) (omega arith) ∙ c.loop-n.invariant
