use Rattle.std.proofs.Common.{rules}
use Rattle.text_spelling.proofs.path.add_name.Goals as goal

pub returns-in-Err-clause-within : goal.returns-in-Err-clause-within
returns-in-Err-clause-within c = search rules
