use Rattle.std.proofs.Common.{◌≢◌, ◌<◌, ◌+◌, ℕ, List, get_or}
use Rattle.write_directory.proofs.links.are_apart.Given as goal

abbrev pub invariant-loop-k : goal.invariant-loop-k
invariant-loop-k l = (j : ℕ) (d : List ℕ × ℕ) → j + 1 < l.k → (get_or l.siblings j d).0
    ≢ (get_or l.siblings (j + 1) d).0
