use Rattle.text_spelling.proofs.Blocks.{mask-tells}
use Rattle.text_spelling.proofs.hex_blocks.are_below_sixteen.Goals as goal

pub returns : goal.returns
returns c = mask-tells c.args.lanes c.fits-lanes.0
