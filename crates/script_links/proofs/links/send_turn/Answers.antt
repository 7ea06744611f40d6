use Rattle.std.proofs.Common.{◌≡◌, ◌∙◌, ap, rules}
use Rattle.script_model.specs.Bounds.{pace, sending}
use Rattle.script_links.proofs.Paces.{sent_pace}
use Rattle.script_links.proofs.Served.{on_ok}
use Rattle.std.specs.Result.{IsErrAnd}
use Rattle.script_container.proofs.Shown.{lacking_on, memory_shown}
use Rattle.script_links.specs.Apart.{others}
use Rattle.script_links.proofs.Apart.{by_sent}
use Rattle.script_links.proofs.links.send_turn.Goals as goal

pub returns-clause-sent : goal.returns-clause-sent
returns-clause-sent g c =
    on_ok c.is_done.result (pace c.args.inc (g.H.Host.told c.send.new.self)
    ≡ sending (pace c.args.inc (g.H.Host.told c.args.host.now)))
    (sent_pace (g.H.Host.told c.args.host.now) (g.H.Host.told c.send.new.self) c.args.inc _ _ c.send.ensures)

pub returns-clause-shown : goal.returns-clause-shown
returns-clause-shown g c = memory_shown g.H.Disk.Disk c.is_done.result (g.H.Host.told c.send.new.self)
    c.is_done.ensures.lacking

pub returns-in_err-bytes-clause-shown : goal.returns-in_err-bytes-clause-shown
returns-in_err-bytes-clause-shown g c =
    let again : IsErrAnd c.from_residual.result (λ x. x ≡ c.in_err-bytes.field-0.0) = search rules in
    lacking_on g.H.Disk.Disk c.from_residual.result c.in_err-bytes.field-0.0 (g.H.Host.told c.args.host.now) again
    c.in_err-bytes.ensures.lacking

pub returns-clause-apart : goal.returns-clause-apart
returns-clause-apart g c = λ held. ap (others c.args.inc held) c.send.ensures
    ∙ by_sent c.args.inc held (g.H.Host.told c.args.host.now) _ _
