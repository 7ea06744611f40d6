use Rattle.std.proofs.Common.{take, ap, ◌∙◌, ◌∷◌, ◌+◌, sym, subst}
use Rattle.std.proofs.lemmas.List.{take_rest}
use Rattle.memchr.specs.Find.{IsFirstByte, is_byte}
use Rattle.text_words.specs.Words.{pieces}
use Rattle.text_words.proofs.Cuts.{pieces-found, pieces-missed}
use Rattle.text_words.proofs.words.cut.Goals as goal

pub returns-in-Some-clause-pieces : goal.returns-in-Some-clause-pieces
returns-in-Some-clause-pieces c =
    pieces-found c.args.at c.args.bytes.now c.in-Some.i
    (subst (λ r. IsFirstByte (is_byte c.args.at) c.args.bytes.now r) c.in-Some.is c.memchr.ensures)
    ∙ ap (λ r. take c.in-Some.i c.args.bytes.now ∷ pieces c.args.at r)
    (sym (take_rest c.args.bytes.now (c.in-Some.i + 1)))

pub returns-in-None-clause-pieces : goal.returns-in-None-clause-pieces
returns-in-None-clause-pieces c =
    pieces-missed c.args.at c.args.bytes.now
    (subst (λ r. IsFirstByte (is_byte c.args.at) c.args.bytes.now r) c.in-None.is c.memchr.ensures)
