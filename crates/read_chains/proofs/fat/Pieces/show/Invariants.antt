use Rattle.std.proofs.Common.{◌≡◌, ◌+◌, ◌*◌, ◌-◌, drop, length, take}
use Rattle.cfb_header.specs.Bytes.{block, joined}
use Rattle.read_chains.specs.View.{bytes_of, start_of, width_of}
use Rattle.read_chains.proofs.fat.Pieces.show.Given as goal

-- once the rest is what stands behind, all is
abbrev pub invariant-loop-at : goal.invariant-loop-at
invariant-loop-at l =
    (l.rest ≡ take (length l.rest)
    (joined (λ n. block (width_of l.self) (bytes_of l.self) (start_of l.self + width_of l.self * n))
    (drop l.at l.numbers))
    → l.bytes ≡ take (length l.bytes)
    (joined (λ n. block (width_of l.self) (bytes_of l.self) (start_of l.self + width_of l.self * n)) l.numbers))

abbrev pub decreases-loop-at : goal.decreases-loop-at
decreases-loop-at l = length l.numbers - l.at
