use Rattle.world_run.specs.Told.{told}
use Rattle.world_run.proofs.Telling.{stops, tells_more}
use Rattle.world_run.proofs.runs.Runs.run.Goals as goal

pub loop-i-preserved : goal.loop-i-preserved
loop-i-preserved g c =
    tells_more (told (λ s. (goal.Embedded-dyn g (s.boxed.vtable, s.boxed.value)).content s.boxed.value)
    c.args.self.now) c.args.moments.now c.loop-i.i c.index-moments-i.result _ _ c.loop-i.invariant
    c.loop-i-test.true c.index-moments-i.is c.in-Ok.ensures.taken

pub returns-in-Err-clause-stop : goal.returns-in-Err-clause-stop
returns-in-Err-clause-stop g c = stops c.args.moments.now c.loop-i.i c.index-moments-i.result
    (told (λ s. (goal.Embedded-dyn g (s.boxed.vtable, s.boxed.value)).content s.boxed.value) c.loop-i.self) _
    c.in-Err.stop c.loop-i-test.true c.index-moments-i.is c.in-Err.ensures.refused c.in-Err.ensures.kept
