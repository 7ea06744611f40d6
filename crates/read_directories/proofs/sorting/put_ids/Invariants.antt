use Rattle.std.proofs.Common.{◌≡◌, ◌<◌, ℕ, length, get_or}
use Rattle.read_directories.specs.Sorting.{places}
use Rattle.read_directories.proofs.sorting.put_ids.Given as goal

abbrev pub invariant-loop-k : goal.invariant-loop-k
invariant-loop-k l = (length l.ids ≡ length l.list)
    × ((j : ℕ) → j < l.k → get_or l.ids j 0 ≡ get_or (places l.list) j 0)
