use Rattle.std.proofs.Common.{◌++◌, length, replicate, ap}
use Rattle.std.proofs.lemmas.List.{drop-replicate, length-take-le}
use Rattle.read_directories.proofs.bytes.padded.Goals as goal

pub copy_from_slice-requires : goal.copy_from_slice-requires
copy_from_slice-requires c = length-take-le (length c.args.part.now) (replicate 128 0) c.requires

pub returns : goal.returns
returns c = rw c.copy_from_slice.ensures.after
    (ap (λ zeros. c.args.part.now ++ zeros) (drop-replicate (length c.args.part.now) 128 0))
