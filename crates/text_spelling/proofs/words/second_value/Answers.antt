use Rattle.std.proofs.Common.{arith}
use Rattle.text_spelling.proofs.Digits.{in_seconds}
use Rattle.text_spelling.proofs.words.second_value.Goals as goal

pub returns : goal.returns
returns c = in_seconds c.args.digit c.from.result (grind (arith, c.ranges.digit.fits)) c.from.ensures
