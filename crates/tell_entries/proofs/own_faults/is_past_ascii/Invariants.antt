use Rattle.std.proofs.Common.{◌<◌, ◌≤◌, ◌*◌, ℕ}
use Rattle.cfb_bytes.specs.Bytes.{u16_at}
use Rattle.tell_entries.proofs.own_faults.is_past_ascii.Given as goal

abbrev pub invariant-loop-k : goal.invariant-loop-k
invariant-loop-k l = (j : ℕ) → j < l.k → u16_at l.entry (2 * j) ≤ 127
