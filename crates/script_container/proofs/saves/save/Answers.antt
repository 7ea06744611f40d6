use Rattle.std.proofs.Common.{◌≡◌, rules}
use Rattle.std.specs.Result.{IsErrAnd}
use Rattle.script_container.proofs.Shown.{passed_on}
use Rattle.script_container.proofs.saves.save.Goals as goal

pub returns-in_err-lose-in-Err-Full-clause-shown : goal.returns-in_err-lose-in-Err-Full-clause-shown
returns-in_err-lose-in-Err-Full-clause-shown g c =
    let again : IsErrAnd c.from_residual.result (λ x. x ≡ c.in_err-lose-in-Err-Full.field-0.0) = search rules in
    passed_on g.H.Disk.Disk c.from_residual.result c.in_err-lose-in-Err-Full.field-0.0
    (g.H.Host.told c.lose.new.host) again c.in_err-lose-in-Err-Full.ensures.shown
