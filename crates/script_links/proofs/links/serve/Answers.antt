use Rattle.std.proofs.Common.{◌≡◌, rules, ◌∙◌}
use Rattle.script_model.specs.Bounds.{pace}
use Rattle.script_links.proofs.Paces.{all_left, left_again, may_link, may_send, may_send_again, turn_again, turn_over}
use Rattle.script_links.proofs.Paces.{turn_unlinked}
use Rattle.std.specs.Result.{IsErrAnd}
use Rattle.script_container.proofs.Known.{lacks_so, memory_stops, stopped_on}
use Rattle.script_links.proofs.Going.{known_still}
use Rattle.script_links.proofs.links.serve.Goals as goal

pub exchange-requires-clause-within : goal.exchange-requires-clause-within
exchange-requires-clause-within g c = may_send (pace c.args.link.now.inc (g.H.Host.told c.args.host.now))
    c.requires.ready

pub exchange-requires-clause-left : goal.exchange-requires-clause-left
exchange-requires-clause-left g c = all_left 1000 (pace c.args.link.now.inc (g.H.Host.told c.args.host.now))
    c.requires.ready

pub returns-in-Turn-clause-turned : goal.returns-in-Turn-clause-turned
returns-in-Turn-clause-turned g c =
    turn_over (pace c.args.link.now.inc (g.H.Host.told c.args.host.now))
    (pace c.exchange.new.link.inc (g.H.Host.told c.exchange.new.host)) c.exchange.new.reads
    c.in_ok-exchange.ensures.on

pub returns-in_default-clause-turned : goal.returns-in_default-clause-turned
returns-in_default-clause-turned g c =
    turn_over (pace c.args.link.now.inc (g.H.Host.told c.args.host.now))
    (pace c.exchange.new.link.inc (g.H.Host.told c.exchange.new.host)) c.exchange.new.reads
    c.in_ok-exchange.ensures.on

pub reconnect-requires-clause-may : goal.reconnect-requires-clause-may
reconnect-requires-clause-may g c =
    may_link (pace c.args.link.now.inc (g.H.Host.told c.args.host.now))
    (pace c.exchange.new.link.inc (g.H.Host.told c.exchange.new.host)) c.exchange.new.reads c.requires.ready
    c.in_ok-exchange.ensures.on

pub returns-then-not-made-clause-turned : goal.returns-then-not-made-clause-turned
returns-then-not-made-clause-turned g c =
    turn_unlinked (pace c.args.link.now.inc (g.H.Host.told c.args.host.now))
    (pace c.exchange.new.link.inc (g.H.Host.told c.exchange.new.host))
    (pace c.reconnect.new.link.inc (g.H.Host.told c.reconnect.new.host)) c.exchange.new.reads c.in_ok-made.made
    (cc) c.in_ok-made.ensures.linked c.in_ok-exchange.ensures.on

pub exchange-requires-2-clause-within : goal.exchange-requires-2-clause-within
exchange-requires-2-clause-within g c =
    may_send_again (pace c.args.link.now.inc (g.H.Host.told c.args.host.now))
    (pace c.exchange.new.link.inc (g.H.Host.told c.exchange.new.host))
    (pace c.reconnect.new.link.inc (g.H.Host.told c.reconnect.new.host)) c.exchange.new.reads c.in_ok-made.made
    (cc) c.in_ok-made.ensures.linked c.requires.ready c.in_ok-exchange.ensures.on

pub exchange-requires-2-clause-left : goal.exchange-requires-2-clause-left
exchange-requires-2-clause-left g c =
    left_again _ (pace c.exchange.new.link.inc (g.H.Host.told c.exchange.new.host))
    (pace c.reconnect.new.link.inc (g.H.Host.told c.reconnect.new.host)) c.exchange.new.reads c.in_ok-made.made
    (cc) c.in_ok-made.ensures.linked c.in_ok-exchange.ensures.on

pub returns-clause-turned : goal.returns-clause-turned
returns-clause-turned g c =
    turn_again (pace c.args.link.now.inc (g.H.Host.told c.args.host.now))
    (pace c.exchange.new.link.inc (g.H.Host.told c.exchange.new.host))
    (pace c.reconnect.new.link.inc (g.H.Host.told c.reconnect.new.host))
    (pace c.exchange-2.new.link.inc (g.H.Host.told c.exchange-2.new.host))
    c.exchange.new.reads c.exchange-2.new.reads c.in_ok-made.made (cc) c.in_ok-made.ensures.linked
    c.in_ok-exchange.ensures.on c.in_ok-heard.ensures.on

pub returns-in_err-exchange-clause-leaves : goal.returns-in_err-exchange-clause-leaves
returns-in_err-exchange-clause-leaves g c =
    let again : IsErrAnd c.from_residual.result (λ x. x ≡ c.in_err-exchange.field-0.0) = search rules in
    stopped_on g.H.Disk.Disk c.from_residual.result c.in_err-exchange.field-0.0 (g.H.Host.told c.exchange.new.host)
    c.exchange.new.core c.exchange.new.noticed again c.in_err-exchange.ensures.leaves

pub returns-in_err-heard-clause-leaves : goal.returns-in_err-heard-clause-leaves
returns-in_err-heard-clause-leaves g c =
    let again : IsErrAnd c.from_residual-in_err-heard.result (λ x. x ≡ c.in_err-heard.field-0.0) = search rules in
    stopped_on g.H.Disk.Disk c.from_residual-in_err-heard.result c.in_err-heard.field-0.0
    (g.H.Host.told c.exchange-2.new.host) c.exchange-2.new.core c.exchange-2.new.noticed again
    c.in_err-heard.ensures.leaves

pub returns-in_err-made-clause-leaves : goal.returns-in_err-made-clause-leaves
returns-in_err-made-clause-leaves g c =
    let again : IsErrAnd c.from_residual-in_err-made.result (λ x. x ≡ c.in_err-made.field-0.0) = search rules in
    memory_stops g.H.Disk.Disk c.from_residual-in_err-made.result (g.H.Host.told c.reconnect.new.host)
    c.exchange.new.core c.exchange.new.noticed
    (lacks_so c.from_residual-in_err-made.result c.in_err-made.field-0.0 again c.in_err-made.ensures.lacking)
    (c.reconnect.ensures.told c.exchange.new.core c.in_ok-exchange.ensures.leaves.told)

pub exchange-requires-2-clause-known : goal.exchange-requires-2-clause-known
exchange-requires-2-clause-known g c = known_still g.H.Disk.Disk c.exchange.new.noticed
    (c.reconnect.ensures.told c.exchange.new.core c.in_ok-exchange.ensures.leaves.told) c.reconnect.ensures.noticed
    c.in_ok-exchange.ensures.leaves.seen

pub returns-then-not-made-clause-leaves : goal.returns-then-not-made-clause-leaves
returns-then-not-made-clause-leaves g c = known_still g.H.Disk.Disk c.exchange.new.noticed
    (c.reconnect.ensures.told c.exchange.new.core c.in_ok-exchange.ensures.leaves.told) c.reconnect.ensures.noticed
    c.in_ok-exchange.ensures.leaves.seen
