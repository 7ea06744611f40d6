use Rattle.std.proofs.Common.{sym}
use Rattle.server_model.proofs.First.{first_takes, offer_refuses}
use Rattle.server_core.proofs.server.ServerCore.unknown_call.Goals as goal

pub returns-in-Ok-offered-clause-acted : goal.returns-in-Ok-offered-clause-acted
returns-in-Ok-offered-clause-acted g c = first_takes c.args.self.now.session c.args.self.now.inc
    c.args.self.now.numbers _ c.args.act c.args.n c.args.operation _ c.in-Ok.class _ c.in-Ok-offered.answer
    (sym c.in-Ok.ensures) c.in-Ok-offered.ensures.acted

pub returns-in-Err-offered-clause-refused : goal.returns-in-Err-offered-clause-refused
returns-in-Err-offered-clause-refused g c = offer_refuses c.args.self.now.session c.args.self.now.inc
    c.args.self.now.numbers _ c.args.act c.args.operation _ _ c.in-Ok.class c.in-Err-offered.refusal.fault
    (sym c.in-Ok.ensures) c.in-Err-offered.ensures.refused
