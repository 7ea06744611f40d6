use Rattle.std.proofs.Common.{◌≡◌, ap, ◌∙◌}
use Rattle.ole_model.specs.Fields.{on_ok}
use Rattle.ole_model.specs.OleStreams.{ole_read}
use Rattle.ole_streams.proofs.document_of.take_ole.Goals as goal

pub returns-in-Ok-clause-value : goal.returns-in-Ok-clause-value
returns-in-Ok-clause-value c =
    let q : c.as_slice.result.now ≡ c.in-Ok.bytes = cc in
    c.read.ensures ∙ ap ole_read q ∙ ap (on_ok ole_read) (rw c.ole.ensures at c.in-Ok.ensures.value)
