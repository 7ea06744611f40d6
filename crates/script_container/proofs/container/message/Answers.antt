use Rattle.std.proofs.Common.{◌≡◌, ◌∙◌, ap, refl}
use Rattle.script_container.proofs.Noticed.{message_noticed, message_unnoticed, one_message}
use Rattle.script_container.specs.Servers.{servers}
use Rattle.script_container.proofs.container.message.Goals as goal

pub returns-clause-noticed : goal.returns-clause-noticed
returns-clause-noticed g c =
    let same : c.in-Some.message ≡ c.args.message = one_message c.message_of.result c.args.message c.in-Some.message
    (c.message_of.ensures c.args.inc c.args.message refl) c.in-Some.is in
    message_noticed (g.H.Host.told c.args.host.now) (g.H.Host.told c.note.new.self) (g.H.Host.told c.noted.new.host)
    c.args.core.now c.args.inc c.args.message c.requires.told.recorded c.note.ensures c.noted.ensures.noticed
    c.on_message-told.new.self c.session.result c.in-Some.message c.noted.result c.on_message-told.result
    c.session.ensures same c.noted.ensures.same c.on_message-told.ensures.taken

pub returns-clause-unnoticed : goal.returns-clause-unnoticed
returns-clause-unnoticed g c =
    let same : c.in-Some.message ≡ c.args.message = one_message c.message_of.result c.args.message c.in-Some.message
    (c.message_of.ensures c.args.inc c.args.message refl) c.in-Some.is in
    message_unnoticed (g.H.Host.told c.args.host.now) (g.H.Host.told c.note.new.self)
    (g.H.Host.told c.noted.new.host) c.args.core.now c.args.inc c.args.message c.requires.told.recorded
    c.note.ensures c.noted.ensures.noticed
    c.session.result c.in-Some.message c.noted.result c.on_message-told.result c.session.ensures same
    c.noted.ensures.same c.on_message-told.ensures.refused

pub returns-clause-serving : goal.returns-clause-serving
returns-clause-serving g c = c.noted.ensures.serving ∙ ap servers c.note.ensures
