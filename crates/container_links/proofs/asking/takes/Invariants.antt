use Rattle.std.proofs.Common.{◌++◌, ◌≡◌, drop, map}
use Rattle.container_links.specs.Asking.{prepared}
use Rattle.container_links.proofs.asking.takes.Given as goal

abbrev pub invariant-loop-object : goal.invariant-loop-object
invariant-loop-object l = l.out.items ++ map (prepared l.frame l.operation) (drop l.object-index l.objects)
    ≡ map (prepared l.frame l.operation) l.objects
