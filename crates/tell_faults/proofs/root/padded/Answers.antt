use Rattle.std.proofs.Common.{◌++◌, length, replicate, ap}
use Rattle.std.proofs.lemmas.List.{drop-replicate, length-take-le}
use Rattle.tell_faults.proofs.root.padded.Goals as goal

pub returns : goal.returns
returns c = rw c.copy_from_slice.ensures.after
    (ap (λ zeros. c.args.bytes.now ++ zeros) (drop-replicate (length c.args.bytes.now) 128 0))
