use Rattle.std.proofs.Common.{◌≡◌, ◌++◌, drop, take}
use Rattle.container_model.specs.Verbs.{before_taking}
use Rattle.container_checks.proofs.verbs.before_taking.Given as goal

abbrev pub invariant-loop-i : goal.invariant-loop-i
invariant-loop-i l = take l.i l.steps ++ before_taking (drop l.i l.steps) ≡ before_taking l.steps
