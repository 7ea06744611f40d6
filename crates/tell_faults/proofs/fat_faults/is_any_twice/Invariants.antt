use Rattle.std.proofs.Common.{◌<◌, ◌≡◌, ℕ, get_or}
use Rattle.tell_faults.proofs.fat_faults.is_any_twice.Given as goal

abbrev pub invariant-loop-k : goal.invariant-loop-k
invariant-loop-k l = (i j d : ℕ) → i < j → j < l.k → get_or l.sectors i d ≡ get_or l.sectors j d → ⊥
