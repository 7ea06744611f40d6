use Rattle.std.proofs.Common.{ap}
use Rattle.script_links.specs.declared.links.Link.{Link}
use Rattle.script_links.proofs.Linked.{same_links}
use Rattle.script_links.proofs.Served.{hold_served}
use Rattle.script_commands.proofs.Held.{hold_this, server_at}
use Rattle.script_commands.proofs.holding.hold.Goals as goal

pub returns-clause-same : goal.returns-clause-same
returns-clause-same c = λ s. same_links s c.args.links.now.items c.args.place _ c.index_mut.result.now c.requires
    (ap (λ (l : Link). l.inc) c.index_mut.ensures.value)

pub returns-clause-served : goal.returns-clause-served
returns-clause-served c = λ f all. hold_served f c.args.links.now.items c.args.place c.index_mut.result.now
    c.index_mut.ensures.value c.requires all

pub returns-clause-holding : goal.returns-clause-holding
returns-clause-holding c = λ f inc at few hold.
    hold_this f inc c.args.links.now.items c.args.place c.index_mut.result.now c.requires c.index_mut.ensures.value
    (server_at c.args.links.now.items c.args.place inc c.index_mut.result.now c.requires c.index_mut.ensures.value
    at) few hold
