use Rattle.server_model.proofs.Known.{known_takes, known_keeps}
use Rattle.server_core.proofs.Known.{place}
use Rattle.server_core.proofs.server.ServerCore.known_call.Goals as goal

pub returns-in-Ok-clause-acted : goal.returns-in-Ok-clause-acted
returns-in-Ok-clause-acted g c = known_takes c.args.self.now.session c.args.self.now.inc c.args.self.now.numbers _
    c.args.act c.args.i c.args.n c.args.operation _ _ c.in-Ok.answered.answer c.in-Ok.answered.counted
    (place (λ s. (goal.Embedded-dyn g (s.boxed.vtable, s.boxed.value)).content s.boxed.value)
    c.args.self.now.seats.slab.slots c.args.self.now.acts.entries c.args.act c.args.i c.requires)
    (c.in-Ok.ensures.acted _)

pub returns-in-Ok-clause-back : goal.returns-in-Ok-clause-back
returns-in-Ok-clause-back g c = known_keeps c.args.self.now.session c.args.self.now.inc c.args.self.now.numbers _
    c.args.act c.args.i _ _
    (place (λ s. (goal.Embedded-dyn g (s.boxed.vtable, s.boxed.value)).content s.boxed.value)
    c.args.self.now.seats.slab.slots c.args.self.now.acts.entries c.args.act c.args.i c.requires)

pub returns-in-Err-clause-refused : goal.returns-in-Err-clause-refused
returns-in-Err-clause-refused g c = c.in-Err.ensures.refused _
