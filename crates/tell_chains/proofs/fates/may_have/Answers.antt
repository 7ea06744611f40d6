use Rattle.std.proofs.Common.{[], subst}
use Rattle.tell_chains.specs.Fates.{IsFate, marks_of}
use Rattle.tell_chains.proofs.Leading.{spared_circle, spared_end}
use Rattle.tell_chains.proofs.fates.may_have.Goals as goal

pub returns-in-Ends : goal.returns-in-Ends
returns-in-Ends c = λ t other table few is.
    spared_end table c.args.chain c.args.fault c.in-Ends.ending few
    (subst (IsFate table (marks_of table []) c.args.chain.first) c.in-Ends.is is) other (c.is_end_at_fault.ensures t)

pub returns-in-Circle : goal.returns-in-Circle
returns-in-Circle c = λ t other table few is.
    spared_circle table c.args.chain c.args.fault few
    (subst (IsFate table (marks_of table []) c.args.chain.first) c.in-Circle.is is) other (c.is_cycle.ensures t)
