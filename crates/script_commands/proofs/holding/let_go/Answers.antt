use Rattle.std.proofs.Common.{ap}
use Rattle.script_links.specs.declared.links.Link.{Link}
use Rattle.script_links.proofs.Linked.{same_links}
use Rattle.script_commands.proofs.holding.let_go.Goals as goal

pub returns-clause-same : goal.returns-clause-same
returns-clause-same c = λ s. same_links s c.args.links.now.items c.args.place _ c.index_mut-link.result.now
    c.requires (ap (λ (l : Link). l.inc) c.index_mut-link.ensures.value)
