use Rattle.std.proofs.Common.{None, Some}
use Rattle.container_links.proofs.Answering.{tools_as}
use Rattle.container_links.proofs.replies.tools_told.Goals as goal

pub returns-in-Some-grant_of-clause-taken : goal.returns-in-Some-grant_of-clause-taken
returns-in-Some-grant_of-clause-taken c =
    rw (tools_as c.args.link.now c.in-Some.l c.in-Some-pending.operation c.in-Some.is c.in-Some-pending.is
    c.op-op.result c.op-op.ensures c.args.tools.menus c.args.tools.border (Some c.in-Some-grant_of.g)
    c.in-Some-grant_of.ensures) c.granted.ensures.taken

pub returns-in-Some-grant_of-clause-refused : goal.returns-in-Some-grant_of-clause-refused
returns-in-Some-grant_of-clause-refused c =
    rw (tools_as c.args.link.now c.in-Some.l c.in-Some-pending.operation c.in-Some.is c.in-Some-pending.is
    c.op-op.result c.op-op.ensures c.args.tools.menus c.args.tools.border (Some c.in-Some-grant_of.g)
    c.in-Some-grant_of.ensures) c.granted.ensures.refused

pub returns-in-None-clause-refused : goal.returns-in-None-clause-refused
returns-in-None-clause-refused c = tools_as c.args.link.now c.in-Some.l c.in-Some-pending.operation c.in-Some.is
    c.in-Some-pending.is c.op-op.result c.op-op.ensures c.args.tools.menus c.args.tools.border None
    c.in-None.ensures
