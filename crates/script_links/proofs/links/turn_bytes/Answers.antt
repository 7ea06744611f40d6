use Rattle.std.proofs.Common.{◌≡◌, rules}
use Rattle.std.specs.Result.{IsErrAnd}
use Rattle.script_container.proofs.Shown.{lacks_on}
use Rattle.script_links.proofs.links.turn_bytes.Goals as goal

pub returns-in_err-push_call-clause-lacking : goal.returns-in_err-push_call-clause-lacking
returns-in_err-push_call-clause-lacking c =
    let again : IsErrAnd c.from_residual.result (λ x. x ≡ c.in_err-push_call.field-0.0) = search rules in
    lacks_on c.from_residual.result c.in_err-push_call.field-0.0 again c.in_err-push_call.ensures.lacking

pub returns-in_err-push_frame-clause-lacking : goal.returns-in_err-push_frame-clause-lacking
returns-in_err-push_frame-clause-lacking c =
    let again : IsErrAnd c.from_residual-in_err-push_frame.result (λ x. x ≡ c.in_err-push_frame.field-0.0) =
    search rules in
    lacks_on c.from_residual-in_err-push_frame.result c.in_err-push_frame.field-0.0 again
    c.in_err-push_frame.ensures.lacking
