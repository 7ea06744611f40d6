use Rattle.std.proofs.Common.{◌∙◌, ◌++◌, ◌∷◌, [], ap, arith}
use Rattle.tree_rising.specs.Laid.{laid}
use Rattle.tree_rising.proofs.Growing.{laid-held}
use Rattle.tree_rising.proofs.blocks.hold_place.Goals as goal

pub returns-clause-same : goal.returns-clause-same
returns-clause-same c = λ block.
    ap (λ xs. laid xs c.args.at block) (c.in_ok-push.ensures.items ∙ ap (λ x. c.args.full.now.items ++ x ∷ [])
    c.new.ensures)
    ∙ laid-held c.args.full.now.items c.args.at block
    (omega (arith, c.requires, c.if-at-len.false, c.len.ensures, c.args.full.now.ok.0))
