use Rattle.container_links.specs.declared.turns.WhenRefused.TheVariants.{Lost, Noted, Unrefused}
use Rattle.container_links.proofs.Answering.{refused_as}
use Rattle.container_links.proofs.replies.refused_told.Goals as goal

pub returns-in-Lost-clause-taken : goal.returns-in-Lost-clause-taken
returns-in-Lost-clause-taken c =
    rw (refused_as c.args.link.now c.in-Some.l c.in-Some-pending.operation c.in-Some.is c.in-Some-pending.is
    c.args.why Lost c.in-Lost.ensures) c.lost.ensures.taken

pub returns-in-Lost-clause-refused : goal.returns-in-Lost-clause-refused
returns-in-Lost-clause-refused c =
    rw (refused_as c.args.link.now c.in-Some.l c.in-Some-pending.operation c.in-Some.is c.in-Some-pending.is
    c.args.why Lost c.in-Lost.ensures) c.lost.ensures.refused

pub returns-in-Noted-clause-taken : goal.returns-in-Noted-clause-taken
returns-in-Noted-clause-taken c =
    rw (refused_as c.args.link.now c.in-Some.l c.in-Some-pending.operation c.in-Some.is c.in-Some-pending.is
    c.args.why Noted c.in-Noted.ensures) c.noted.ensures.taken

pub returns-in-Noted-clause-refused : goal.returns-in-Noted-clause-refused
returns-in-Noted-clause-refused c =
    rw (refused_as c.args.link.now c.in-Some.l c.in-Some-pending.operation c.in-Some.is c.in-Some-pending.is
    c.args.why Noted c.in-Noted.ensures) c.noted.ensures.refused

pub returns-in-Unrefused-clause-refused : goal.returns-in-Unrefused-clause-refused
returns-in-Unrefused-clause-refused c = refused_as c.args.link.now c.in-Some.l c.in-Some-pending.operation
    c.in-Some.is c.in-Some-pending.is c.args.why Unrefused c.in-Unrefused.ensures
