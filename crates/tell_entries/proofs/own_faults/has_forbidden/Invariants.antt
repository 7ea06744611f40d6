use Rattle.std.proofs.Common.{◌≡◌, ◌<◌, ◌*◌, false, ℕ}
use Rattle.cfb_bytes.specs.Bytes.{u16_at}
use Rattle.cfb_names.specs.Names.{is_forbidden}
use Rattle.tell_entries.proofs.own_faults.has_forbidden.Given as goal

abbrev pub invariant-loop-k : goal.invariant-loop-k
invariant-loop-k l = (j : ℕ) → j < l.k → is_forbidden (u16_at l.entry (2 * j)) ≡ false
