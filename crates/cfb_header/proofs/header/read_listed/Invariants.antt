use Rattle.std.proofs.Common.{◌≡◌, ◌<◌, ◌+◌, ◌*◌, ℕ, get_or, length}
use Rattle.cfb_header.specs.Bytes.{u32_at}
use Rattle.cfb_header.proofs.header.read_listed.Given as goal

abbrev pub invariant-loop-k : goal.invariant-loop-k
invariant-loop-k l = (length l.fat ≡ 109) × ((k : ℕ) → k < l.k → get_or l.fat k 0 ≡ u32_at l.bytes (76 + 4 * k))
