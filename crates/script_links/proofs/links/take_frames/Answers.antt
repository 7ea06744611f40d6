use Rattle.std.proofs.Common.{◌≡◌, ◌∙◌, ℕ, rules, subst}
use Rattle.std.specs.Result.{IsErrAnd}
use Rattle.script_model.specs.Bounds.{pace}
use Rattle.script_model.specs.Origins.{passed}
use Rattle.script_container.proofs.Known.{stopped_on}
use Rattle.script_links.proofs.Served.{message_taken, turn_taken}
use Rattle.script_links.proofs.links.take_frames.Goals as goal

pub returns-in-Ok-Some-Turn-clause-served : goal.returns-in-Ok-Some-Turn-clause-served
returns-in-Ok-Some-Turn-clause-served g c = turn_taken (passed c.loop.link.inc (g.H.Host.told c.loop.host))
    c.loop.link c.next.new.self c.next.result (cc) c.next.ensures c.loop.invariant.served

pub meet-requires-clause-served : goal.meet-requires-clause-served
meet-requires-clause-served g c = message_taken (passed c.loop.link.inc (g.H.Host.told c.loop.host)) c.loop.link
    c.next.new.self c.in-Ok-Some-Message.taken c.next.result (cc) c.next.ensures c.loop.invariant.served

pub returns-in_err-meet-in-Ok-Some-Message-clause-leaves : goal.returns-in_err-meet-in-Ok-Some-Message-clause-leaves
returns-in_err-meet-in-Ok-Some-Message-clause-leaves g c =
    let again : IsErrAnd c.from_residual.result (λ x. x ≡ c.in_err-meet-in-Ok-Some-Message.field-0.0) = search rules in
    stopped_on g.H.Disk.Disk c.from_residual.result c.in_err-meet-in-Ok-Some-Message.field-0.0
    (g.H.Host.told c.meet.new.host) c.meet.new.core c.meet.new.noticed again
    c.in_err-meet-in-Ok-Some-Message.ensures.leaves

pub returns-in_err-meet-in-Ok-Some-Message-clause-paced : goal.returns-in_err-meet-in-Ok-Some-Message-clause-paced
returns-in_err-meet-in-Ok-Some-Message-clause-paced g c =
    subst (λ (i : ℕ). pace i (g.H.Host.told c.meet.new.host) ≡ pace i (g.H.Host.told c.loop.host))
    c.loop.invariant.same c.meet.ensures.paced ∙ c.loop.invariant.paced
