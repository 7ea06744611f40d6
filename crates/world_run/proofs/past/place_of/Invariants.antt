use Rattle.container_model.specs.Numbered.{IsPast}
use Rattle.world_model.specs.Story.{is_session}
use Rattle.world_run.specs.Told.{seen_pasts}
use Rattle.world_run.proofs.past.place_of.Given as goal

abbrev pub invariant-loop-i : goal.invariant-loop-i
invariant-loop-i g l = IsPast (is_session l.session)
    (seen_pasts (λ s. (goal.Embedded-dyn g (s.boxed.vtable, s.boxed.value)).content s.boxed.value) l.past) l.i
