use Rattle.container_links.specs.declared.turns.WhenContent.TheVariants.{Saved, Closed, Unasked}
use Rattle.container_links.proofs.Answering.{content_as}
use Rattle.container_links.proofs.replies.content_told.Goals as goal

pub returns-in-Saved-clause-taken : goal.returns-in-Saved-clause-taken
returns-in-Saved-clause-taken c =
    rw (content_as c.args.link.now c.in-Some.l c.in-Some-pending.operation c.in-Some.is c.in-Some-pending.is
    c.op-op.result c.op-op.ensures c.args.content Saved c.in-Saved.ensures) c.saved.ensures.taken

pub returns-in-Saved-clause-refused : goal.returns-in-Saved-clause-refused
returns-in-Saved-clause-refused c =
    rw (content_as c.args.link.now c.in-Some.l c.in-Some-pending.operation c.in-Some.is c.in-Some-pending.is
    c.op-op.result c.op-op.ensures c.args.content Saved c.in-Saved.ensures) c.saved.ensures.refused

pub returns-in-Closed-clause-taken : goal.returns-in-Closed-clause-taken
returns-in-Closed-clause-taken c =
    rw (content_as c.args.link.now c.in-Some.l c.in-Some-pending.operation c.in-Some.is c.in-Some-pending.is
    c.op-op.result c.op-op.ensures c.args.content Closed c.in-Closed.ensures) c.closed.ensures.taken

pub returns-in-Closed-clause-refused : goal.returns-in-Closed-clause-refused
returns-in-Closed-clause-refused c =
    rw (content_as c.args.link.now c.in-Some.l c.in-Some-pending.operation c.in-Some.is c.in-Some-pending.is
    c.op-op.result c.op-op.ensures c.args.content Closed c.in-Closed.ensures) c.closed.ensures.refused

pub returns-in-Unasked-clause-refused : goal.returns-in-Unasked-clause-refused
returns-in-Unasked-clause-refused c = content_as c.args.link.now c.in-Some.l c.in-Some-pending.operation
    c.in-Some.is c.in-Some-pending.is c.op-op.result c.op-op.ensures c.args.content Unasked c.in-Unasked.ensures
