use Rattle.std.proofs.Common.{◌≡◌, ◌+◌, ◌*◌, take}
use Rattle.cfb_header.specs.Bytes.{block, joined}
use Rattle.read_chains.proofs.sectors.join_blocks.Given as goal

abbrev pub invariant-loop-n : goal.invariant-loop-n
invariant-loop-n l = l.out.items ≡ joined (λ n. block l.width l.bytes (l.start + l.width * n))
    (take l.n-index l.sectors)
