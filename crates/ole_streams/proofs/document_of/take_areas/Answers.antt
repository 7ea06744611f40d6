use Rattle.std.proofs.Common.{◌≡◌, List, Result, IsOk, ap, subst, ◌∙◌}
use Rattle.tree_streams.specs.declared.area.Area.{Area}
use Rattle.ole_model.specs.declared.fault.OleFault.{OleFault}
use Rattle.ole_model.specs.Fields.{on_ok}
use Rattle.ole_model.specs.Layouts.{layout_read}
use Rattle.ole_streams.proofs.document_of.take_areas.Goals as goal

pub returns-in-Ok-clause-value : goal.returns-in-Ok-clause-value
returns-in-Ok-clause-value c = λ h.
    let q : c.as_slice.result.now ≡ c.in-Ok.bytes = cc in
    c.read_layout.ensures.areas h ∙ ap layout_read q ∙ ap (on_ok layout_read)
    (rw c.layout.ensures at c.in-Ok.ensures.value)

pub returns-in-Ok-clause-wanting : goal.returns-in-Ok-clause-wanting
returns-in-Ok-clause-wanting c = λ h.
    let q : c.as_slice.result.now ≡ c.in-Ok.bytes = cc in
    subst (λ (r : Result (List Area) OleFault). IsOk r)
    (ap layout_read q ∙ ap (on_ok layout_read) (rw c.layout.ensures at c.in-Ok.ensures.value))
    (c.read_layout.ensures.wanting h)
