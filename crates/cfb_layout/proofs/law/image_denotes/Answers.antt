use Rattle.cfb_layout.proofs.Contents.{image-denotes}
use Rattle.cfb_layout.proofs.law.image_denotes.Goals as goal

pub returns : goal.returns
returns c = image-denotes
