use Rattle.std.proofs.Common.{◌<◌, ℕ, arith, length, subst, sym}
use Rattle.std.proofs.lemmas.Grind.{common_steps}
use Rattle.std.specs.List.{Contains}
use Rattle.write_zeros.proofs.entries.push_next.Goals as goal

pub returns : goal.returns
returns c = λ next next_mini ids sectors minis h all.
    let id : ℕ = c.index-id.result.now in
    let lt : c.args.k < length c.args.met.now.items = grind (arith, common_steps) in
    c.in_ok-push_links.ensures next next_mini ids sectors minis h
    (subst (Contains ids) (sym c.index-id.ensures) (all c.args.k id lt)) all
