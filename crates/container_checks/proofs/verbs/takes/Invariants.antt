use Rattle.std.proofs.Common.{◌≡◌, drop}
use Rattle.container_model.specs.Verbs.{takes}
use Rattle.container_checks.proofs.verbs.takes.Given as goal

abbrev pub invariant-loop-step : goal.invariant-loop-step
invariant-loop-step l = takes (drop l.step-index l.steps) ≡ takes l.steps
