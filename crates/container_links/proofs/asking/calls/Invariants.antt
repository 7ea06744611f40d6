use Rattle.std.proofs.Common.{◌++◌, ◌≡◌, ◌≤◌, drop, vec_len}
use Rattle.container_model.specs.Record.{asked_all, sends}
use Rattle.container_links.proofs.asking.calls.Given as goal

abbrev pub invariant-loop-object : goal.invariant-loop-object
invariant-loop-object l = record {
  few : vec_len l.out ≤ l.object-index;
  sent : l.out.items ++ sends (asked_all l.frame l.operation (drop l.object-index l.objects))
      ≡ sends (asked_all l.frame l.operation l.objects);
}
