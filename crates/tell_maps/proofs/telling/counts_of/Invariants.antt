use Rattle.std.proofs.Common.{◌≡◌, ◌<◌, ◌≤◌, ◌+◌, ℕ, drop, get_or, length}
use Rattle.tell_maps.specs.Maps.{count_of}
use Rattle.tell_maps.proofs.telling.counts_of.Given as goal

abbrev pub invariant-loop-cell : goal.invariant-loop-cell
invariant-loop-cell l = record {
  len : length l.counts ≡ 256;
  few : (c : ℕ) → c < 256 → get_or l.counts c 0 ≤ l.cell-index;
  counted : (c : ℕ) → c < 256 → get_or l.counts c 0 + count_of c (drop l.cell-index l.cells) ≡ count_of c l.cells;
}
