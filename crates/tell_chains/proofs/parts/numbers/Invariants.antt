use Rattle.std.proofs.Common.{◌≡◌, ◌<◌, ◌*◌, ℕ, get_or, length}
use Rattle.cfb_bytes.specs.Bytes.{u32_at}
use Rattle.tell_chains.proofs.parts.numbers.Given as goal

abbrev pub invariant-loop-k : goal.invariant-loop-k
invariant-loop-k l = (length l.numbers.items ≡ l.k)
    × ((k : ℕ) → k < l.k → get_or l.numbers.items k 0 ≡ u32_at l.bytes (4 * k))
