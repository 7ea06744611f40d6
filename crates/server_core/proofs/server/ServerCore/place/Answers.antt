use Rattle.std.proofs.Common.{sym}
use Rattle.server_core.proofs.Known.{unknown_if}
use Rattle.server_core.proofs.Standing.{stands_at}
use Rattle.server_core.proofs.server.ServerCore.place.Goals as goal

pub returns-in-Some : goal.returns-in-Some
returns-in-Some g c = stands_at c.args.self.now.acts.entries c.args.act c.in-Some.i _ _ (sym c.in-Some.ensures.key)
    c.in-Some.ensures.entry c.len-len.ensures.unique

pub returns-in-None : goal.returns-in-None
returns-in-None g c = unknown_if (λ s. (goal.Embedded-dyn g (s.boxed.vtable, s.boxed.value)).content s.boxed.value)
    c.args.self.now.seats.slab.slots c.args.self.now.acts.entries c.args.act (sym c.in-None.ensures.value)
