use Rattle.tree_edits.specs.Lines.{line_read}
use Rattle.tree_edits.proofs.Numbered.{numbered_within}
use Rattle.tree_edits.proofs.lines.EditLinesGrammar.parse.Goals as goal

pub returns-in-Err-clause-within : goal.returns-in-Err-clause-within
returns-in-Err-clause-within c = numbered_within c.args.number (line_read c.args.line.now) c.in-Err.ensures.within
