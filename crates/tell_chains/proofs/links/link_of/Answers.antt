use Rattle.std.proofs.Common.{subst}
use Rattle.tell_faults.specs.Places.{IsExamined}
use Rattle.tell_chains.proofs.links.link_of.Goals as goal

pub returns-in-Whole-clause-none : goal.returns-in-Whole-clause-none
returns-in-Whole-clause-none c = λ table taken chain fault e.
    (subst (IsExamined table taken chain fault) c.in-Whole.is e).1

pub returns-in-Other-clause-none : goal.returns-in-Other-clause-none
returns-in-Other-clause-none c = λ table taken chain fault e.
    (subst (IsExamined table taken chain fault) c.in-Other.is e).0
