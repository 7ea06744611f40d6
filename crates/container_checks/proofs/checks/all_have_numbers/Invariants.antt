use Rattle.std.proofs.Common.{◌≡◌, drop}
use Rattle.container_model.specs.Commands.{all_have_numbers}
use Rattle.container_checks.proofs.checks.all_have_numbers.Given as goal

abbrev pub invariant-loop-object : goal.invariant-loop-object
invariant-loop-object l = all_have_numbers l.frame l.numbers (drop l.object-index l.objects)
    ≡ all_have_numbers l.frame l.numbers l.objects
