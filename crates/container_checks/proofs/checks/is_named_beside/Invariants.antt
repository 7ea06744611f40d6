use Rattle.std.proofs.Common.{◌≡◌, ◌+◌, drop}
use Rattle.container_model.specs.Commands.{is_named_beside}
use Rattle.container_checks.proofs.checks.is_named_beside.Given as goal

abbrev pub invariant-loop-i : goal.invariant-loop-i
invariant-loop-i l = is_named_beside l.number l.name (l.i + 1) (drop l.i l.frames)
    ≡ is_named_beside l.number l.name 1 l.frames
