use Rattle.std.proofs.Common.{◌+◌, ◌≤◌, ◌≡◌, vec_len, vec_capacity}
use Rattle.std.specs.List.{range_with_len}
use Rattle.world_host.proofs.host.number.Given as goal

abbrev pub invariant-loop-i : goal.invariant-loop-i
invariant-loop-i l = record {
  room : l.count ≤ vec_capacity l.places;
  len : vec_len l.places ≡ l.i;
  places : l.places.items ≡ range_with_len (l.before + 1) l.i;
}
