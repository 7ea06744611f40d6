use Rattle.cfb_layout.proofs.Contents.{placed-denotes}
use Rattle.cfb_layout.proofs.law.placed_denotes.Goals as goal

pub returns : goal.returns
returns c = placed-denotes
