use Rattle.std.proofs.Common.{◌<◌, ℕ}
use Rattle.cfb_entries.specs.Entries.{entry_at}
use Rattle.write_zeros.specs.Parts.{EndsInZeros}
use Rattle.write_zeros.proofs.streams.all_end_in_zeros.Given as goal

abbrev pub invariant-loop-id : goal.invariant-loop-id
invariant-loop-id l = (k : ℕ) → k < l.id → EndsInZeros l.file l.parts (entry_at l.parts.chains.entries.items k)
