use Rattle.std.proofs.Common.{◌∙◌, ap, arith, bit_or}
use Rattle.text_spelling.proofs.Digits.{both_told, small}
use Rattle.text_spelling.specs.Words.{byte_told, hex_digit, weighed}
use Rattle.text_spelling.proofs.words.told_pair.Goals as goal

pub returns : goal.returns
returns c =
    ap (λ n. byte_told (bit_or n c.second_value.result)) c.first_value.ensures
    ∙ ap (λ n. byte_told (bit_or (weighed 16 (hex_digit c.args.high)) n)) c.second_value.ensures
    ∙ both_told (hex_digit c.args.high) (hex_digit c.args.low)
    (small c.args.high (grind (arith, c.ranges.high.fits)))
    (small c.args.low (grind (arith, c.ranges.low.fits)))
