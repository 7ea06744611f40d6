use Rattle.std.proofs.Common.{◌≡◌, ◌+◌, ◌≤◌, ◌++◌, drop, vec_len, vec_capacity}
use Rattle.container_links.specs.Handing.{calls_by}
use Rattle.container_links.proofs.handing.push_calls.Given as goal

abbrev pub invariant-loop-i : goal.invariant-loop-i
invariant-loop-i l = record {
  few : vec_len l.actions ≤ vec_len l.initial.actions + l.i;
  room : vec_capacity l.initial.actions ≤ vec_capacity l.actions;
  same : l.actions.items ++ calls_by (drop l.i l.takes) (drop l.i l.objects) ≡ l.initial.actions.items
      ++ calls_by l.takes l.objects;
}
