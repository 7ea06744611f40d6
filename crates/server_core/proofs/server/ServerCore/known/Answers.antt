use Rattle.std.proofs.Common.{ap}
use Rattle.std.proofs.lemmas.Result.{IfOk-weaker, IfErr-weaker, on_err_weaker}
use Rattle.server_model.proofs.Known.{server}
use Rattle.server_core.proofs.Known.{acts, keeps, refuses}
use Rattle.server_core.proofs.server.ServerCore.known.Goals as goal

pub returns-clause-acted : goal.returns-clause-acted
returns-clause-acted g c =
    IfOk-weaker c.on_call.result _ _
    (λ t h. acts (λ s. (goal.Embedded-dyn g (s.boxed.vtable, s.boxed.value)).content s.boxed.value)
    c.args.self.now.seats.slab.slots c.args.self.now.acts.entries c.args.act c.args.i c.requires
    c.index_mut.result.now c.index_mut.ensures.value c.args.self.now.session c.args.self.now.inc
    c.args.self.now.numbers c.args.n c.args.operation.now c.on_call.new.self c.on_call.new.seats.slab.slots
    t.answer t.counted c.on_call.ensures.others h) c.on_call.ensures.acted

pub returns-clause-refused : goal.returns-clause-refused
returns-clause-refused g c =
    IfErr-weaker c.on_call.result _ _
    (λ e h. refuses (λ s. (goal.Embedded-dyn g (s.boxed.vtable, s.boxed.value)).content s.boxed.value)
    c.args.self.now.seats.slab.slots c.args.self.now.acts.entries c.args.act c.args.i c.requires
    c.index_mut.result.now c.index_mut.ensures.value c.args.self.now.session c.args.self.now.inc
    c.args.self.now.numbers c.args.n c.args.operation.now e h) c.on_call.ensures.refused

pub returns-clause-kept : goal.returns-clause-kept
returns-clause-kept g c =
    on_err_weaker c.on_call.result
    (λ h. ap (server c.args.self.now.session c.args.self.now.inc c.args.self.now.numbers)
    (keeps (λ s. (goal.Embedded-dyn g (s.boxed.vtable, s.boxed.value)).content s.boxed.value)
    c.args.self.now.seats.slab.slots c.args.self.now.acts.entries c.args.act c.args.i c.requires
    c.index_mut.result.now c.index_mut.ensures.value c.on_call.new.self c.on_call.new.seats.slab.slots
    c.on_call.ensures.others h)) c.on_call.ensures.kept
