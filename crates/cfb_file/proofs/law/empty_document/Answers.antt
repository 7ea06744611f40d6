use Rattle.cfb_file.proofs.EmptyDocument.{denoted}
use Rattle.cfb_file.proofs.law.empty_document.Goals as goal

pub returns : goal.returns
returns c = denoted
