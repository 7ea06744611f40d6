use Rattle.std.proofs.Common.{◌∷◌, None, Some, ap, ◌∙◌}
use Rattle.std.specs.Option.{option_copied}
use Rattle.text_words.specs.Words.{further}
use Rattle.object_kinds.specs.Drawn.{shape_told}
use Rattle.object_kinds.proofs.Listed.{shapes_on-first, shapes_on-unended}
use Rattle.object_kinds.proofs.stored.first_figure.Goals as goal

pub returns-in_err-behind-clause-split : goal.returns-in_err-behind-clause-split
returns-in_err-behind-clause-split c =
    rw c.from_residual.ensures
    (shapes_on-unended c.args.bytes.now c.cut.result.0.now c.requires
    (c.cut.ensures.pieces ∙ ap (λ r. c.cut.result.0.now ∷ further 10 (option_copied r)) c.in_err-behind.was))

pub returns-in_err-figure-clause-split : goal.returns-in_err-figure-clause-split
returns-in_err-figure-clause-split c =
    rw c.from_residual-in_err-figure.ensures
    (shapes_on-first c.args.bytes.now c.cut.result.0.now c.in_ok-behind.behind.now None
    (c.cut.ensures.pieces ∙ ap (λ r. c.cut.result.0.now ∷ further 10 (option_copied r)) c.in_ok-behind.was)
    c.in_err-figure.ensures)

pub returns-clause-split : goal.returns-clause-split
returns-clause-split c =
    shapes_on-first c.args.bytes.now c.cut.result.0.now c.in_ok-behind.behind.now
    (Some (shape_told c.in_ok-figure.figure))
    (c.cut.ensures.pieces ∙ ap (λ r. c.cut.result.0.now ∷ further 10 (option_copied r)) c.in_ok-behind.was)
    c.in_ok-figure.ensures
