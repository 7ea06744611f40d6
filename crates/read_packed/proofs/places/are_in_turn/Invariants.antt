use Rattle.std.proofs.Common.{◌≡◌, ◌<◌, ◌+◌, ◌*◌, ◌^◌, ℕ, get_or}
use Rattle.read_packed.proofs.places.are_in_turn.Given as goal

abbrev pub invariant-loop-k : goal.invariant-loop-k
invariant-loop-k l =
    (l.next ≡ l.at + 512 * l.k) × (l.next < 2 ^ 32 + 512)
    × ((k : ℕ) → k < l.k → get_or l.places (l.first + k) 0 ≡ l.at + 512 * k)
