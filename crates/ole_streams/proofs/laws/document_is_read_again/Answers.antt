use Rattle.ole_streams.proofs.AgainDoc.{document_again}
use Rattle.ole_streams.proofs.laws.document_is_read_again.Goals as goal

pub returns : goal.returns
returns c = document_again
