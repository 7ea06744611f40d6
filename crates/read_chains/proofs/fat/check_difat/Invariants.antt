use Rattle.std.proofs.Common.{◌<◌, ◌≡◌, ℕ, get_or}
use Rattle.read_chains.proofs.fat.check_difat.Given as goal

abbrev pub invariant-loop-k : goal.invariant-loop-k
invariant-loop-k l = record {
  apart : (i j d : ℕ) → i < j → j < l.k → get_or l.difat i d ≡ get_or l.difat j d → ⊥;
  present : (i d : ℕ) → i < l.k → get_or l.difat i d < l.count;
}
