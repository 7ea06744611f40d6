use Rattle.std.proofs.Common.{◌∙◌, sym}
use Rattle.tell_chains.proofs.Owned.{narrow, wide}
use Rattle.tell_chains.proofs.links.width_for.Goals as goal

pub returns-then-lies_in_minis : goal.returns-then-lies_in_minis
returns-then-lies_in_minis c = λ p b base. narrow p b c.args.size
    (sym c.lies_in_minis.ensures ∙ c.if-lies_in_minis.true) base

pub returns : goal.returns
returns c = λ p b base. wide p b c.args.size (sym c.lies_in_minis.ensures ∙ c.if-lies_in_minis.false) base
