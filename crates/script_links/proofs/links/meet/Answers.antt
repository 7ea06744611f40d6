use Rattle.std.proofs.Common.{◌∷◌, [], subst, sym}
use Rattle.script_model.specs.Origins.{Passed, passed}
use Rattle.script_container.proofs.Known.{memory_stops}
use Rattle.script_links.specs.Links.{IsServed}
use Rattle.script_links.proofs.Apart.{message_apart, message_given, message_paced}
use Rattle.script_links.proofs.Served.{hand_given, hand_next, on_ok}
use Rattle.script_links.proofs.links.meet.Goals as goal

pub hand_over-requires-clause-next : goal.hand_over-requires-clause-next
hand_over-requires-clause-next g c = hand_next (passed c.args.link.now.inc (g.H.Host.told c.args.host.now))
    c.args.link.now c.args.taken c.if-link.false c.requires.served

pub returns-in_err-push-clause-leaves : goal.returns-in_err-push-clause-leaves
returns-in_err-push-clause-leaves g c =
    memory_stops g.H.Disk.Disk c.from_residual.result (g.H.Host.told c.args.host.now) c.args.core.now
    c.args.noticed.now c.from_residual.ensures.1 c.requires.known.told

pub returns-clause-served : goal.returns-clause-served
returns-clause-served g c =
    on_ok c.hand_over.result
    (IsServed (passed c.args.link.now.inc (g.H.Host.told c.hand_over.new.host)) c.args.link.now [])
    (subst (λ (p : Passed). IsServed p c.args.link.now [])
    (sym (message_given (g.H.Host.told c.args.host.now) (g.H.Host.told c.hand_over.new.host)
    c.args.link.now.inc c.args.taken c.hand_over.ensures.serving))
    (hand_given (passed c.args.link.now.inc (g.H.Host.told c.args.host.now)) c.args.link.now c.args.taken
    c.if-link.false c.requires.served))

pub returns-clause-paced : goal.returns-clause-paced
returns-clause-paced g c = message_paced (g.H.Host.told c.args.host.now) (g.H.Host.told c.hand_over.new.host)
    c.args.link.now.inc c.args.taken c.hand_over.ensures.serving c.args.link.now.inc

pub returns-clause-apart : goal.returns-clause-apart
returns-clause-apart g c = message_apart (g.H.Host.told c.args.host.now) (g.H.Host.told c.hand_over.new.host)
    c.args.link.now.inc c.args.taken c.hand_over.ensures.serving c.args.link.now.held c.if-link.false
    c.hand_over.ensures.ordered
