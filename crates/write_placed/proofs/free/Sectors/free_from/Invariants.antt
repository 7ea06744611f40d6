use Rattle.std.proofs.Common.{◌≡◌, ◌≤◌, ◌<◌, false, slice_index_or, true, ℕ}
use Rattle.write_placed.proofs.free.Sectors.free_from.Given as goal

abbrev pub invariant-loop-at : goal.invariant-loop-at
invariant-loop-at l = (k : ℕ) → l.from ≤ k → k < l.at → slice_index_or l.self.taken.items k false ≡ true
