use Rattle.std.proofs.Common.{◌-◌, ◌≡◌, ◌≤◌, ◌+◌, ◌*◌, ℕ, List, length, take, drop}
use Rattle.store_model.specs.Changes.{changes_from, spelled}
use Rattle.store_core.proofs.compare.compare.Given as goal

abbrev pub invariant-loop-number : goal.invariant-loop-number
invariant-loop-number l = record {
  from : l.first ≤ l.number;
  to : l.number ≤ l.last;
  few : l.count + l.first ≤ l.number;
  out : length l.out ≡ length l.fn.out;
  counted : (old : List ℕ) → l.window ≡ take 65536 (drop (512 * l.first) old)
      → l.count ≡ length (changes_from l.first (l.number - l.first) old l.document);
  spelled : (old : List ℕ) → l.window ≡ take 65536 (drop (512 * l.first) old)
      → take (516 * l.count) l.out ≡ spelled (changes_from l.first (l.number - l.first) old l.document);
}

abbrev pub decreases-loop-number : goal.decreases-loop-number
decreases-loop-number l = l.last - l.number
