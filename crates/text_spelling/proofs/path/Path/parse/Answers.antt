use Rattle.std.proofs.Common.{sym, ◌∙◌}
use Rattle.text_spelling.specs.Paths.{path_read}
use Rattle.text_spelling.proofs.Hex.{absent}
use Rattle.text_spelling.proofs.path.Path.parse.Goals as goal

pub returns-else-is_path-clause-read : goal.returns-else-is_path-clause-read
returns-else-is_path-clause-read c = absent (path_read c.args.word.now) (sym c.if-is_path.false ∙ c.is_path.ensures)
