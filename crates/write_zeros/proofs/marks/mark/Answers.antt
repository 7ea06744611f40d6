use Rattle.write_zeros.proofs.Ends.{within_more}
use Rattle.write_zeros.proofs.marks.mark.Goals as goal

pub returns : goal.returns
returns c = λ taken in_taken w. within_more c.args.marks.now c.args.n taken in_taken w
