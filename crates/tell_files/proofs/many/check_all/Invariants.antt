use Rattle.std.proofs.Common.{map, take}
use Rattle.tell_files.specs.Many.{AreChecked}
use Rattle.tell_files.proofs.many.check_all.Given as goal

abbrev pub invariant-loop-name : goal.invariant-loop-name
invariant-loop-name g l = AreChecked (map (λ n. n.now) (take l.name-index l.names))
    (g.C.Checker.checked l.initial.checker) (g.C.Checker.checked l.checker) l.are_sound
