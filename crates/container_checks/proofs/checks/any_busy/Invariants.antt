use Rattle.std.proofs.Common.{◌≡◌, drop}
use Rattle.container_model.specs.Commands.{any_busy}
use Rattle.container_checks.proofs.checks.any_busy.Given as goal

abbrev pub invariant-loop-object : goal.invariant-loop-object
invariant-loop-object l = any_busy l.frame l.state (drop l.object-index l.objects) ≡ any_busy l.frame l.state l.objects
