use Rattle.container_steady.proofs.SteadyDocuments.{documents-hold}
use Rattle.container_steady.proofs.record_laws.documents_hold.Goals as goal

pub returns : goal.returns
returns c = documents-hold
