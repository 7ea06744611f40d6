use Rattle.std.proofs.Common.{◌≡◌, ◌-◌, ◌++◌, ◌∷◌, [], arith, replicate, rules}
use Rattle.std.specs.List.{range_with_len}
use Rattle.cfb_chains.specs.Chain.{FREE_SECTOR}
use Rattle.write_parts.proofs.Lists.{names_pushed}
use Rattle.write_parts.proofs.front.push_names.Goals as goal

pub returns : goal.returns
returns c =
    let items : c.push.new.self.items
    ≡ ((c.args.numbers.now.items ++ range_with_len c.args.first c.min-count.result)
    ++ replicate (127 - c.min-count.result) FREE_SECTOR) ++ c.args.next ∷ [] =
    search rules in
    names_pushed c.args.numbers.now.items c.push.new.self.items c.args.first c.args.end c.min-count.result
    c.args.next (omega (arith, c.min-count.ensures, c.saturating_sub.ensures)) items
