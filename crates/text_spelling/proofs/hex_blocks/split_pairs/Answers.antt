use Rattle.text_spelling.proofs.Blocks.{split-even, split-odd}
use Rattle.text_spelling.proofs.hex_blocks.split_pairs.Goals as goal

pub returns-clause-even : goal.returns-clause-even
returns-clause-even c = split-even c.args.word.now c.requires

pub returns-clause-odd : goal.returns-clause-odd
returns-clause-odd c = split-odd c.args.word.now c.requires
