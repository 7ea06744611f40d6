use Rattle.text_spelling.proofs.Numbers.{number-spelled}
use Rattle.text_spelling.proofs.laws.printed_number_is_read.Goals as goal

pub returns : goal.returns
returns c = number-spelled
