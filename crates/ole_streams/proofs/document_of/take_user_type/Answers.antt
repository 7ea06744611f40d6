use Rattle.std.proofs.Common.{◌≡◌, ap, ◌∙◌, Err}
use Rattle.ole_model.specs.CompObjs.{user_type_read}
use Rattle.ole_model.specs.Fields.{on_ok}
use Rattle.ole_streams.proofs.Opening.{err_same}
use Rattle.ole_streams.proofs.document_of.take_user_type.Goals as goal

pub returns-in-Ok-clause-value : goal.returns-in-Ok-clause-value
returns-in-Ok-clause-value c = λ h.
    let q : c.as_slice.result.now ≡ c.in-Ok.bytes = cc in
    c.in-Err-read.ensures.read (λ e. h (ap Err (err_same e))) ∙ ap user_type_read q
    ∙ ap (on_ok user_type_read) (rw c.comp_obj.ensures at c.in-Ok.ensures.value)
