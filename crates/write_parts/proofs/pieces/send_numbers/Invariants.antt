use Rattle.std.proofs.Common.{drop, length, ◌-◌, ◌≡◌, ◌++◌, List, ℕ}
use Rattle.std.specs.Int.{to_le_bytes, w32}
use Rattle.std.specs.List.{flat_map}
use Rattle.write_parts.specs.Sends.{Sends}
use Rattle.write_parts.proofs.pieces.send_numbers.Given as goal

abbrev pub invariant-loop-at : goal.invariant-loop-at
invariant-loop-at g l = (sent : List ℕ)
    × Sends (g.W.Write.contents l.initial.writer) (g.W.Write.contents l.writer) l.initial.waiting.items
    l.waiting.items sent
    × (sent ++ flat_map (to_le_bytes w32) (drop l.at l.numbers) ≡ flat_map (to_le_bytes w32) l.numbers)

abbrev pub decreases-loop-at : goal.decreases-loop-at
decreases-loop-at g l = length l.numbers - l.at
