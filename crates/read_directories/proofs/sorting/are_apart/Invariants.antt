use Rattle.std.proofs.Common.{◌≢◌, ◌<◌, ◌+◌, ℕ, List, get_or}
use Rattle.read_directories.proofs.sorting.are_apart.Given as goal

abbrev pub invariant-loop-k : goal.invariant-loop-k
invariant-loop-k l = (j : ℕ) (d : List ℕ × ℕ) → j + 1 < l.k → (get_or l.list j d).0 ≢ (get_or l.list (j + 1) d).0
