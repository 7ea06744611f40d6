use Rattle.std.proofs.Common.{sym, ◌∙◌}
use Rattle.text_spelling.proofs.Plain.{off, plain_read}
use Rattle.text_spelling.proofs.path.is_plain.Goals as goal

pub returns : goal.returns
returns c = λ h. plain_read c.args.part.now (sym c.has_escaped.ensures ∙ off c.has_escaped.result h)
