use Rattle.tell_chains.proofs.Leading.{settled_last}
use Rattle.tell_chains.proofs.fates.settle_last.Goals as goal

pub returns-clause-settling : goal.returns-clause-settling
returns-clause-settling c = λ table stops start s.
    settled_last table stops c.args.fates.now.items c.note.new.fates.items start c.in-Some.n c.args.way.now.items
    c.pop.new.self.items c.args.fate c.back-before.result s c.in-Some.ensures.items c.note.ensures
    (c.back-before.ensures table stops)
