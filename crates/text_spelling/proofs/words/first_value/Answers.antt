use Rattle.std.proofs.Common.{arith}
use Rattle.text_spelling.proofs.Digits.{in_firsts}
use Rattle.text_spelling.proofs.words.first_value.Goals as goal

pub returns : goal.returns
returns c = in_firsts c.args.digit c.from.result (grind (arith, c.ranges.digit.fits)) c.from.ensures
