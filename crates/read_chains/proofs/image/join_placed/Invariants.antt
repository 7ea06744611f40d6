use Rattle.std.proofs.Common.{◌≡◌, take}
use Rattle.cfb_header.specs.Bytes.{joined, sector}
use Rattle.read_chains.proofs.image.join_placed.Given as goal

abbrev pub invariant-loop-n : goal.invariant-loop-n
invariant-loop-n l = l.out.items ≡ joined (sector l.file) (take l.n-index l.sectors)
