use Rattle.std.proofs.Common.{arith}
use Rattle.text_spelling.proofs.Digits.{in_specials}
use Rattle.text_spelling.proofs.path.is_special.Goals as goal

pub returns : goal.returns
returns c = in_specials c.args.byte c.from.result (grind (arith, c.ranges.byte.fits)) c.from.ensures
