use Rattle.std.proofs.Common.{arith}
use Rattle.container_checks.proofs.LookupPlaces.{past_none}
use Rattle.world_run.specs.Told.{seen_past}
use Rattle.world_run.proofs.Sought.{sought_all, sought_here, sought_more}
use Rattle.world_run.proofs.past.place_of.Goals as goal

pub loop-i-init : goal.loop-i-init
loop-i-init g c = past_none _ _

pub returns-then-run-session : goal.returns-then-run-session
returns-then-run-session g c =
    sought_here (seen_past (λ s. (goal.Embedded-dyn g (s.boxed.vtable, s.boxed.value)).content s.boxed.value))
    c.args.session c.args.past.now c.loop-i.i c.index-past-i.result c.loop-i.invariant c.loop-i-test.true
    c.index-past-i.is c.if-run-session.true

pub loop-i-preserved : goal.loop-i-preserved
loop-i-preserved g c =
    sought_more (seen_past (λ s. (goal.Embedded-dyn g (s.boxed.vtable, s.boxed.value)).content s.boxed.value))
    c.args.session c.args.past.now c.loop-i.i c.index-past-i.result c.loop-i.invariant c.loop-i-test.true
    c.index-past-i.is c.if-run-session.false

pub returns : goal.returns
returns g c =
    sought_all (seen_past (λ s. (goal.Embedded-dyn g (s.boxed.vtable, s.boxed.value)).content s.boxed.value))
    c.args.session c.args.past.now c.loop-i.i c.loop-i.invariant (omega arith)
