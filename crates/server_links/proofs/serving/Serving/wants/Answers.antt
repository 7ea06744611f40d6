use Rattle.std.proofs.Common.{ap, ◌∙◌}
use Rattle.server_model.specs.Server.{wanted}
use Rattle.server_links.proofs.Served.{one_at}
use Rattle.server_links.proofs.serving.Serving.wants.Goals as goal

pub returns : goal.returns
returns g c = λ t h. c.wants.ensures ∙ ap (λ s. wanted s c.args.message.now)
    (one_at _ c.args.self.now t c.index.result.now h c.index.ensures)
