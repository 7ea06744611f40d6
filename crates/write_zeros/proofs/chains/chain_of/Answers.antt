use Rattle.std.proofs.Common.{◌≡◌, ◌∙◌, arith, rules, sym, List, ℕ, []}
use Rattle.write_zeros.proofs.Ends.{linked_none, linked_some}
use Rattle.write_zeros.proofs.chains.chain_of.Goals as goal

pub returns-then-size-eq0 : goal.returns-then-size-eq0
returns-then-size-eq0 c = λ ns few h.
    let none : c.new.result.items ≡ [] = search rules in
    none ∙ sym (linked_none c.args.table.now c.args.first c.args.size ns (omega arith) h)
