use Rattle.std.proofs.Common.{◌≡◌, ◌+◌, ◌≤◌, ◌++◌, drop, vec_len, vec_capacity}
use Rattle.container_model.specs.Saves.{settled_actions}
use Rattle.container_links.proofs.settling.push_commits.Given as goal

abbrev pub invariant-loop-i : goal.invariant-loop-i
invariant-loop-i l = record {
  few : vec_len l.actions ≤ vec_len l.initial.actions + l.i;
  room : vec_capacity l.initial.actions ≤ vec_capacity l.actions;
  same : l.actions.items ++ settled_actions (l.i + 1) l.objects (drop l.i l.frames) ≡ l.initial.actions.items
      ++ settled_actions 1 l.objects l.frames;
}
