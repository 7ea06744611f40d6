use Rattle.write_zeros.proofs.Rest.{zeroed_by}
use Rattle.write_zeros.proofs.zeroed.is_zeroed.Goals as goal

pub returns : goal.returns
returns c = λ is t d. zeroed_by c.args.file.now t d c.in_ok-parts.parts c.in_ok-marks.marks
    (c.in_ok-parts.ensures t d) c.in_ok-marks.ensures (c.is_rest_zero.ensures is)
