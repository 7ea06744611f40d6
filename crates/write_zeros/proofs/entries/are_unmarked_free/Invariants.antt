use Rattle.std.proofs.Common.{◌≡◌, ◌<◌, ℕ, false, get_or}
use Rattle.cfb_entries.specs.Entries.{entry_at}
use Rattle.cfb_entries.specs.Written.{free_entry_bytes}
use Rattle.write_zeros.proofs.entries.are_unmarked_free.Given as goal

abbrev pub invariant-loop-id : goal.invariant-loop-id
invariant-loop-id l = (k : ℕ) → k < l.id → get_or l.marks k false ≡ false → entry_at l.directory k ≡ free_entry_bytes
