use Rattle.std.proofs.Common.{◌≡◌, rules, ◌∙◌}
use Rattle.script_model.specs.Bounds.{pace}
use Rattle.script_links.proofs.Paces.{heard_on, may_hear, none_heard, sent_within}
use Rattle.std.specs.Result.{IsErrAnd}
use Rattle.script_container.proofs.Known.{stopped_on}
use Rattle.script_links.proofs.Going.{known_still}
use Rattle.script_links.proofs.links.exchange.Goals as goal

pub returns-then-not-branch-clause-on : goal.returns-then-not-branch-clause-on
returns-then-not-branch-clause-on g c =
    none_heard (pace c.args.link.now.inc (g.H.Host.told c.args.host.now))
    (pace c.args.link.now.inc (g.H.Host.told c.send_turn.new.host)) c.args.reads.now
    c.in_ok-send_turn.ensures.sent c.requires.left

pub hear-requires-clause-within : goal.hear-requires-clause-within
hear-requires-clause-within g c =
    sent_within (pace c.args.link.now.inc (g.H.Host.told c.args.host.now))
    (pace c.args.link.now.inc (g.H.Host.told c.send_turn.new.host)) c.in_ok-send_turn.ensures.sent
    c.requires.within

pub hear-requires-clause-on : goal.hear-requires-clause-on
hear-requires-clause-on g c =
    may_hear (pace c.args.link.now.inc (g.H.Host.told c.args.host.now))
    (pace c.args.link.now.inc (g.H.Host.told c.send_turn.new.host)) c.args.reads.now
    c.in_ok-send_turn.ensures.sent c.requires.left

pub returns-clause-on : goal.returns-clause-on
returns-clause-on g c =
    heard_on c.hear.result (pace c.args.link.now.inc (g.H.Host.told c.args.host.now))
    (pace c.args.link.now.inc (g.H.Host.told c.send_turn.new.host))
    (pace c.hear.new.link.inc (g.H.Host.told c.hear.new.host)) c.hear.new.reads c.in_ok-send_turn.ensures.sent
    c.hear.ensures.on

pub returns-in_err-send_turn-clause-leaves : goal.returns-in_err-send_turn-clause-leaves
returns-in_err-send_turn-clause-leaves g c =
    let again : IsErrAnd c.from_residual.result (λ x. x ≡ c.in_err-send_turn.field-0.0) = search rules in
    stopped_on g.H.Disk.Disk c.from_residual.result c.in_err-send_turn.field-0.0 (g.H.Host.told c.send_turn.new.host)
    c.args.core.now c.args.noticed.now again
    (record { told = c.send_turn.ensures.told; shown = c.in_err-send_turn.ensures.shown })

pub hear-requires-clause-known : goal.hear-requires-clause-known
hear-requires-clause-known g c = known_still g.H.Disk.Disk c.args.noticed.now c.send_turn.ensures.told
    c.send_turn.ensures.noticed
    c.requires.known.seen

pub returns-then-not-branch-clause-leaves : goal.returns-then-not-branch-clause-leaves
returns-then-not-branch-clause-leaves g c = known_still g.H.Disk.Disk c.args.noticed.now c.send_turn.ensures.told
    c.send_turn.ensures.noticed
    c.requires.known.seen

pub returns-in_err-send_turn-clause-apart : goal.returns-in_err-send_turn-clause-apart
returns-in_err-send_turn-clause-apart g c = c.send_turn.ensures.apart c.args.link.now.held

pub returns-then-not-branch-clause-apart : goal.returns-then-not-branch-clause-apart
returns-then-not-branch-clause-apart g c = c.send_turn.ensures.apart c.args.link.now.held

pub returns-clause-apart : goal.returns-clause-apart
returns-clause-apart g c = c.hear.ensures.apart ∙ c.send_turn.ensures.apart c.args.link.now.held
