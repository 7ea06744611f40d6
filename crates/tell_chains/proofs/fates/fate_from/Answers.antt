use Rattle.std.proofs.Common.{subst, sym}
use Rattle.tell_chains.specs.Fates.{IsFate}
use Rattle.tell_chains.proofs.Leading.{circle, ends_here}
use Rattle.tell_chains.proofs.fates.fate_from.Goals as goal

pub returns-then-not-is_new : goal.returns-then-not-is_new
returns-then-not-is_new c = λ table start all r. ends_here table c.args.stops.now c.args.to
    (c.is_new.ensures.old c.if-not-is_new.true)

pub returns-then-stands_in : goal.returns-then-stands_in
returns-then-stands_in c = λ table start all r. circle table c.args.stops.now start c.args.way.now c.args.to r
    (c.stands_in.ensures.there c.if-stands_in.true)

pub returns : goal.returns
returns c = λ table start all r. subst (IsFate table c.args.stops.now c.args.to) (sym c.noted.ensures) (all c.args.to)
