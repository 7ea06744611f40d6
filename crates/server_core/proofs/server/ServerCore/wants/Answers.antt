use Rattle.std.proofs.Common.{sym}
use Rattle.server_core.proofs.Known.{is_known}
use Rattle.server_core.proofs.OwnCalls.{unwanted_known}
use Rattle.server_core.proofs.server.ServerCore.wants.Goals as goal

pub returns-in-Some : goal.returns-in-Some
returns-in-Some g c = unwanted_known _ c.args.message.now _ _ _ _ _ c.in-Call.is (sym c.if-not-is_for.ensures)
    (is_known (λ s. (goal.Embedded-dyn g (s.boxed.vtable, s.boxed.value)).content s.boxed.value)
    c.args.self.now.seats.slab.slots c.args.self.now.acts.entries _ c.in-Some.field-0 c.in-Some.ensures)
