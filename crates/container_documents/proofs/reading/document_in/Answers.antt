use Rattle.std.proofs.lemmas.Result.{IfOk-weaker}
use Rattle.tree_storage.specs.Kept.{kept}
use Rattle.container_documents.proofs.ReadAs.{read_as, unread}
use Rattle.container_documents.proofs.reading.document_in.Goals as goal

pub returns-in-Ok-clause-given : goal.returns-in-Ok-clause-given
returns-in-Ok-clause-given c = IfOk-weaker c.document_held.result _ _
    (λ d held. read_as c.args.file.now (kept c.in-Ok.tree).now d c.in-Ok.ensures.denotes held)
    c.document_held.ensures.held

pub returns-else-lacks_memory_to_read-clause-given : goal.returns-else-lacks_memory_to_read-clause-given
returns-else-lacks_memory_to_read-clause-given c =
    unread c.args.file.now (λ t denoted. c.if-lacks_memory_to_read.ensures.other (λ e. cc)
    (c.in-Err.ensures.reads t denoted))
