use Rattle.std.proofs.Common.{◌++◌, ◌≡◌, drop, length, take}
use Rattle.container_links.specs.Asking.{installed_all}
use Rattle.container_links.proofs.asking.install_all.Given as goal

abbrev pub invariant-loop-i : goal.invariant-loop-i
invariant-loop-i l = record {
  each : length l.takes.items ≡ length l.objects;
  done : take l.i l.objects ++ installed_all (drop l.i l.takes.items) (drop l.i l.objects)
      ≡ installed_all l.fn.takes.items l.fn.objects;
}
