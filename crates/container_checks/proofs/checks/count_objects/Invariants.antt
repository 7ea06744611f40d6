use Rattle.std.proofs.Common.{◌+◌, ◌≡◌, ◌≤◌, drop}
use Rattle.container_model.specs.Record.{count_objects}
use Rattle.container_checks.proofs.checks.count_objects.Given as goal

abbrev pub invariant-loop-object : goal.invariant-loop-object
invariant-loop-object l = record {
  few : l.count ≤ l.object-index;
  counted : l.count + count_objects l.frame (drop l.object-index l.objects) ≡ count_objects l.frame l.objects;
}
