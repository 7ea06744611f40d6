use Rattle.ole_model.specs.DocOf.{pushed}
use Rattle.container_documents.proofs.Fitting.{can_push, lacks_memory}
use Rattle.container_documents.proofs.documents.document.Goals as goal

pub lacking-requires : goal.lacking-requires
lacking-requires c =
    lacks_memory (pushed c.loop-part.doc c.in_ok-held.field-0) c.loop-part.doc _ c.in-Err.fault
    (can_push c.args.parts.now c.loop-part.part-index c.loop-part.doc c.part-item.result c.in_ok-held.field-0
    c.requires c.loop-part-test.true c.part-item.is c.loop-part.invariant.objects c.in_ok-held.ensures)
    c.in-Err.ensures
