use Rattle.container_documents.proofs.ReadAs.{document_within}
use Rattle.container_documents.proofs.reading.document_held.Goals as goal

pub returns-in-Ok-clause-within : goal.returns-in-Ok-clause-within
returns-in-Ok-clause-within c = document_within _ c.as_slice.ensures.within
