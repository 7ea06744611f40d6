use Rattle.container_links.specs.declared.turns.WhenDone.TheVariants.{Continues, GivesUp, Ends, Undone}
use Rattle.container_links.proofs.Answering.{done_as}
use Rattle.container_links.proofs.replies.done_told.Goals as goal

pub returns-in-Continues-clause-taken : goal.returns-in-Continues-clause-taken
returns-in-Continues-clause-taken c =
    rw (done_as c.args.link.now c.in-Some.l c.in-Some-pending.operation c.in-Some.is c.in-Some-pending.is
    c.op-op.result c.op-op.ensures (Continues c.in-Continues.s) c.in-Continues.ensures) c.done.ensures.taken

pub returns-in-Continues-clause-refused : goal.returns-in-Continues-clause-refused
returns-in-Continues-clause-refused c =
    rw (done_as c.args.link.now c.in-Some.l c.in-Some-pending.operation c.in-Some.is c.in-Some-pending.is
    c.op-op.result c.op-op.ensures (Continues c.in-Continues.s) c.in-Continues.ensures) c.done.ensures.refused

pub returns-in-GivesUp-clause-taken : goal.returns-in-GivesUp-clause-taken
returns-in-GivesUp-clause-taken c =
    rw (done_as c.args.link.now c.in-Some.l c.in-Some-pending.operation c.in-Some.is c.in-Some-pending.is
    c.op-op.result c.op-op.ensures GivesUp c.in-GivesUp.ensures) c.granted.ensures.taken

pub returns-in-GivesUp-clause-refused : goal.returns-in-GivesUp-clause-refused
returns-in-GivesUp-clause-refused c =
    rw (done_as c.args.link.now c.in-Some.l c.in-Some-pending.operation c.in-Some.is c.in-Some-pending.is
    c.op-op.result c.op-op.ensures GivesUp c.in-GivesUp.ensures) c.granted.ensures.refused

pub returns-in-Ends-clause-taken : goal.returns-in-Ends-clause-taken
returns-in-Ends-clause-taken c =
    rw (done_as c.args.link.now c.in-Some.l c.in-Some-pending.operation c.in-Some.is c.in-Some-pending.is
    c.op-op.result c.op-op.ensures Ends c.in-Ends.ensures) c.closed.ensures.taken

pub returns-in-Ends-clause-refused : goal.returns-in-Ends-clause-refused
returns-in-Ends-clause-refused c =
    rw (done_as c.args.link.now c.in-Some.l c.in-Some-pending.operation c.in-Some.is c.in-Some-pending.is
    c.op-op.result c.op-op.ensures Ends c.in-Ends.ensures) c.closed.ensures.refused

pub returns-in-Undone-clause-refused : goal.returns-in-Undone-clause-refused
returns-in-Undone-clause-refused c = done_as c.args.link.now c.in-Some.l c.in-Some-pending.operation c.in-Some.is
    c.in-Some-pending.is c.op-op.result c.op-op.ensures Undone c.in-Undone.ensures
