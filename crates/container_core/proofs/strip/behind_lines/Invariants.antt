use Rattle.std.proofs.Common.{◌≡◌, ◌≤◌, ◌-◌}
use Rattle.container_core.specs.Screen.{behind_lines}
use Rattle.container_core.proofs.strip.behind_lines.Given as goal

abbrev pub invariant-loop-i : goal.invariant-loop-i
invariant-loop-i l = record {
  within : l.i ≤ l.fn.n;
  same : l.left ≡ behind_lines l.i l.fn.text;
}

abbrev pub decreases-loop-i : goal.decreases-loop-i
decreases-loop-i l = l.fn.n - l.i
