use Rattle.std.proofs.Common.{ap, ◌∙◌}
use Rattle.server_model.specs.Server.{asked}
use Rattle.server_core.specs.View.{seen, seen_activation}
use Rattle.server_core.proofs.Known.{asks_refused, asks_told, found}
use Rattle.server_core.proofs.server.ServerCore.ask_deactivate.Goals as goal

pub returns-in-Some-ask-clause-told : goal.returns-in-Some-ask-clause-told
returns-in-Some-ask-clause-told g c =
    let v = seen (λ s. (goal.Embedded-dyn g (s.boxed.vtable, s.boxed.value)).content s.boxed.value) c.args.self.now in
    let a = seen_activation (λ s. (goal.Embedded-dyn g (s.boxed.vtable, s.boxed.value)).content s.boxed.value)
    c.args.self.now.seats.slab.slots (c.args.act, c.index.result.now) in
    ap (asked v) (found (λ s. (goal.Embedded-dyn g (s.boxed.vtable, s.boxed.value)).content s.boxed.value)
    c.args.self.now.seats.slab.slots c.args.self.now.acts.entries c.args.act c.in-Some.i c.in-Some.ensures
    c.index.result.now c.index.ensures) ∙ asks_told v a a.g c.in-Some-ask.said c.in-Some-ask.ensures

pub returns-in-None-clause-refused : goal.returns-in-None-clause-refused
returns-in-None-clause-refused g c =
    let v = seen (λ s. (goal.Embedded-dyn g (s.boxed.vtable, s.boxed.value)).content s.boxed.value) c.args.self.now in
    let a = seen_activation (λ s. (goal.Embedded-dyn g (s.boxed.vtable, s.boxed.value)).content s.boxed.value)
    c.args.self.now.seats.slab.slots (c.args.act, c.index.result.now) in
    ap (asked v) (found (λ s. (goal.Embedded-dyn g (s.boxed.vtable, s.boxed.value)).content s.boxed.value)
    c.args.self.now.seats.slab.slots c.args.self.now.acts.entries c.args.act c.in-Some.i c.in-Some.ensures
    c.index.result.now c.index.ensures) ∙ asks_refused v a a.g c.in-None.ensures
