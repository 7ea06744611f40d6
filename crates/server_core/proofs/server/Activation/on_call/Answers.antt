use Rattle.std.proofs.Common.{◌∙◌}
use Rattle.server_core.proofs.server.Activation.on_call.Goals as goal

pub returns-clause-others : goal.returns-clause-others
returns-clause-others g c = λ other key differ. c.put-self.ensures.others other key differ
    ∙ c.take-seat.ensures.others other key differ
