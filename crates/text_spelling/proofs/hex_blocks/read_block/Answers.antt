use Rattle.std.proofs.Common.{ℕ, List, take, map, ap, ◌∙◌, arith}
use Rattle.std.proofs.lemmas.List.{length-take}
use Rattle.text_spelling.specs.Words.{hex_digit}
use Rattle.text_spelling.proofs.Blocks.{block-long, block-read}
use Rattle.text_spelling.proofs.hex_blocks.read_block.Goals as goal

pub returns-clause-long : goal.returns-clause-long
returns-clause-long c =
    let front : List ℕ = take 32 c.args.word.now in
    block-long front c.values-high.result c.values-low.result
    (omega (arith, c.requires, length-take 32 c.args.word.now))
    (c.values-high.ensures ∙ ap (map hex_digit) c.split_pairs.ensures.even)
    (c.values-low.ensures ∙ ap (map hex_digit) c.split_pairs.ensures.odd)

pub returns-clause-read : goal.returns-clause-read
returns-clause-read c =
    let front : List ℕ = take 32 c.args.word.now in
    block-read front c.values-high.result c.values-low.result
    (omega (arith, c.requires, length-take 32 c.args.word.now))
    (c.values-high.ensures ∙ ap (map hex_digit) c.split_pairs.ensures.even)
    (c.values-low.ensures ∙ ap (map hex_digit) c.split_pairs.ensures.odd)
    c.are_below_sixteen.result c.are_below_sixteen.ensures
