use Rattle.text_spelling.proofs.Blocks.{lanes-told}
use Rattle.text_spelling.proofs.hex_blocks.values.Goals as goal

pub returns : goal.returns
returns c = lanes-told 16 c.args.digits c.fits-digits.0 c.fits-digits.1
