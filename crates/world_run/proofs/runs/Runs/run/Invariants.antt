use Rattle.std.proofs.Common.{take}
use Rattle.world_model.specs.Story.{Tells}
use Rattle.world_run.specs.Told.{told}
use Rattle.world_run.proofs.runs.Runs.run.Given as goal

abbrev pub invariant-loop-i : goal.invariant-loop-i
invariant-loop-i g l =
    Tells (told (λ s. (goal.Embedded-dyn g (s.boxed.vtable, s.boxed.value)).content s.boxed.value) l.fn.self)
    (take l.i l.moments) (told (λ s. (goal.Embedded-dyn g (s.boxed.vtable, s.boxed.value)).content s.boxed.value)
    l.self)
