use Rattle.std.proofs.Common.{rules}
use Rattle.text_words.proofs.words.number.Goals as goal

pub returns-in_default : goal.returns-in_default
returns-in_default c = search rules
