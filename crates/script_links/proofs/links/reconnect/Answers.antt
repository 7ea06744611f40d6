use Rattle.std.proofs.Common.{◌∙◌, ap}
use Rattle.script_model.specs.Bounds.{pace}
use Rattle.script_links.proofs.Paces.{connected_told, made_pace, made_so}
use Rattle.script_links.proofs.Served.{reconnected}
use Rattle.script_links.specs.Apart.{others}
use Rattle.script_links.proofs.Apart.{by_connected}
use Rattle.script_links.proofs.links.reconnect.Goals as goal

pub returns-clause-served : goal.returns-clause-served
returns-clause-served g c = reconnected (g.H.Host.told c.args.host.now) (g.H.Host.told c.connect.new.self)
    c.args.link.now c.new.result _ c.new.ensures c.connect.ensures c.requires.served

pub returns-clause-linked : goal.returns-clause-linked
returns-clause-linked g c =
    made_so c.is_done.result c.connect.result (pace c.args.link.now.inc (g.H.Host.told c.args.host.now))
    (pace c.args.link.now.inc (g.H.Host.told c.connect.new.self)) c.is_done.ensures.done c.is_done.ensures.asked
    (made_pace (g.H.Host.told c.args.host.now) (g.H.Host.told c.connect.new.self) c.args.link.now.inc _
    c.connect.ensures)

pub returns-clause-told : goal.returns-clause-told
returns-clause-told g c = λ r told. connected_told (g.H.Host.told c.args.host.now)
    (g.H.Host.told c.connect.new.self) r c.args.link.now.inc _ c.connect.ensures c.requires.may told

pub returns-clause-apart : goal.returns-clause-apart
returns-clause-apart g c = ap (others c.args.link.now.inc c.args.link.now.held) c.connect.ensures
    ∙ by_connected c.args.link.now.inc c.args.link.now.held (g.H.Host.told c.args.host.now) _
