use Rattle.std.proofs.Common.{◌≡◌, ◌≤◌, ◌+◌, ◌++◌, drop, take, length}
use Rattle.container_core.specs.Screen.{line_length}
use Rattle.container_core.proofs.strip.line_length.Given as goal

abbrev pub invariant-loop-i : goal.invariant-loop-i
invariant-loop-i l = line_length l.fn.text ≡ l.i + line_length (drop l.i l.fn.text)
