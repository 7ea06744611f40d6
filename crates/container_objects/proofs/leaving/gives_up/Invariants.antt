use Rattle.std.proofs.Common.{◌≡◌, drop}
use Rattle.container_model.specs.Verbs.{gives_up}
use Rattle.container_objects.proofs.leaving.gives_up.Given as goal

abbrev pub invariant-loop-step : goal.invariant-loop-step
invariant-loop-step l = gives_up (drop l.step-index l.steps) ≡ gives_up l.steps
