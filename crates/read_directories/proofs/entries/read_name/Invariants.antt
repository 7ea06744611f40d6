use Rattle.std.proofs.Common.{◌≡◌, ◌<◌, ◌≤◌, ◌+◌, ◌*◌, ℕ, false, get_or, length}
use Rattle.cfb_bytes.specs.Bytes.{u16_at}
use Rattle.cfb_names.specs.Names.{is_forbidden}
use Rattle.read_directories.proofs.entries.read_name.Given as goal

abbrev pub invariant-loop-k : goal.invariant-loop-k
invariant-loop-k l = record {
  room : length l.units ≡ 32;
  count : get_or l.units 0 0 ≡ l.count;
  read : (k : ℕ) → k < l.k → get_or l.units (k + 1) 0 ≡ u16_at l.entry (2 * k);
  ascii : (k : ℕ) → k < l.k → get_or l.units (k + 1) 0 < 128;
  zeros : (k : ℕ) → l.k ≤ k → get_or l.units (k + 1) 0 ≡ 0;
  allowed : (k : ℕ) → k < l.k → is_forbidden (get_or l.units (k + 1) 0) ≡ false;
}
