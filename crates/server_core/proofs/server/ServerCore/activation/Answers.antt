use Rattle.server_core.proofs.Known.{viewed}
use Rattle.server_core.proofs.server.ServerCore.activation.Goals as goal

pub returns-in-Some : goal.returns-in-Some
returns-in-Some g c = viewed (λ s. (goal.Embedded-dyn g (s.boxed.vtable, s.boxed.value)).content s.boxed.value)
    c.args.self.now.seats.slab.slots c.args.self.now.acts.entries c.args.act c.in-Some.i c.in-Some.ensures
    c.index-activation.result.now c.index-activation.ensures c.view.result c.is_some-opened.result c.get.result
    c.view.ensures c.is_some-opened.ensures c.get.ensures
