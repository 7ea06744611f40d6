use Rattle.std.proofs.Common.{ap, refl}
use Rattle.server_model.proofs.Known.{server}
use Rattle.server_core.specs.View.{seen_activation}
use Rattle.server_core.proofs.Known.{keeps, tells, untold}
use Rattle.server_core.proofs.server.ServerCore.scribble_at.Goals as goal

pub returns-in-Ok-clause-told : goal.returns-in-Ok-clause-told
returns-in-Ok-clause-told g c =
    tells (λ s. (goal.Embedded-dyn g (s.boxed.vtable, s.boxed.value)).content s.boxed.value)
    c.args.self.now.seats.slab.slots c.args.self.now.acts.entries c.args.act c.args.i c.requires
    c.index_mut.result.now c.index_mut.ensures.value c.args.self.now.session c.args.self.now.inc
    c.args.self.now.numbers c.write.new.self c.in-Ok.said c.in-Ok.ensures.written

pub returns-in-Err-clause-refused : goal.returns-in-Err-clause-refused
returns-in-Err-clause-refused g c =
    untold (λ s. (goal.Embedded-dyn g (s.boxed.vtable, s.boxed.value)).content s.boxed.value)
    c.args.self.now.seats.slab.slots c.args.self.now.acts.entries c.args.act c.args.i c.requires
    c.index_mut.result.now c.index_mut.ensures.value c.args.self.now.session c.args.self.now.inc
    c.args.self.now.numbers c.in-Err.fault c.in-Err.ensures.refused

pub returns-in-Err-clause-kept : goal.returns-in-Err-clause-kept
returns-in-Err-clause-kept g c =
    ap (server c.args.self.now.session c.args.self.now.inc c.args.self.now.numbers)
    (keeps (λ s. (goal.Embedded-dyn g (s.boxed.vtable, s.boxed.value)).content s.boxed.value)
    c.args.self.now.seats.slab.slots c.args.self.now.acts.entries c.args.act c.args.i c.requires
    c.index_mut.result.now c.index_mut.ensures.value c.write.new.self c.args.self.now.seats.slab.slots
    (λ other key differ. refl)
    (ap (λ a. seen_activation (λ s. (goal.Embedded-dyn g (s.boxed.vtable, s.boxed.value)).content s.boxed.value)
    c.args.self.now.seats.slab.slots (c.args.act, a)) c.in-Err.ensures.kept))
