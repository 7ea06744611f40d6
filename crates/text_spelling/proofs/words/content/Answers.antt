use Rattle.std.proofs.Common.{sym, ◌∙◌}
use Rattle.text_spelling.specs.Words.{content_read}
use Rattle.text_spelling.proofs.Hex.{absent}
use Rattle.text_spelling.proofs.words.content.Goals as goal

pub returns-else-is_content-clause-read : goal.returns-else-is_content-clause-read
returns-else-is_content-clause-read c = absent (content_read c.args.word.now)
    (sym c.if-is_content.false ∙ c.is_content.ensures)
