use Rattle.std.proofs.Common.{Some, option_map, ap, sym, ◌∙◌}
use Rattle.server_model.specs.Server.{kept_reply}
use Rattle.server_core.specs.View.{seen}
use Rattle.server_core.proofs.Known.{found}
use Rattle.server_core.proofs.server.ServerCore.last_reply.Goals as goal

pub returns-in_ok-said-in-Some : goal.returns-in_ok-said-in-Some
returns-in_ok-said-in-Some g c =
    ap (λ said. Some (record { session = c.args.self.now.session; said = said })) c.in_ok-said-in-Some.ensures
    ∙ ap
    (option_map
    (kept_reply (seen (λ s. (goal.Embedded-dyn g (s.boxed.vtable, s.boxed.value)).content s.boxed.value)
    c.args.self.now)))
    (sym (found (λ s. (goal.Embedded-dyn g (s.boxed.vtable, s.boxed.value)).content s.boxed.value)
    c.args.self.now.seats.slab.slots c.args.self.now.acts.entries c.args.act c.in-Some.i c.in-Some.ensures
    c.index.result.now c.index.ensures))
