use Rattle.std.proofs.Common.{◌≡◌, ◌++◌, drop, map}
use Rattle.container_model.specs.Verbs.{operation_of}
use Rattle.container_links.proofs.closing.push_steps.Given as goal

abbrev pub invariant-loop-step : goal.invariant-loop-step
invariant-loop-step l = l.operations.items ++ map (operation_of l.g) (drop l.step-index l.steps)
    ≡ l.initial.operations.items ++ map (operation_of l.g) l.steps
