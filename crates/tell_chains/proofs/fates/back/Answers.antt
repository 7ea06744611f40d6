use Rattle.std.proofs.Common.{get_or, refl, subst}
use Rattle.tell_chains.specs.Fates.{IsFate}
use Rattle.tell_chains.proofs.Leading.{circle_back, end_back}
use Rattle.tell_chains.proofs.fates.back.Goals as goal

pub returns-in-Ends : goal.returns-in-Ends
returns-in-Ends c = λ table stops free h.
    end_back table stops c.args.n c.in-Ends.ending
    (record { to = c.in-Ends.ending.to; steps = c.one_more.result; last = c.last_with.result }) free
    (subst (IsFate table stops (get_or table c.args.n 0)) c.in-Ends.is h) refl c.one_more.ensures c.last_with.ensures

pub returns-in-Circle : goal.returns-in-Circle
returns-in-Circle c = λ table stops free h.
    circle_back table stops c.args.n free (subst (IsFate table stops (get_or table c.args.n 0)) c.in-Circle.is h)
