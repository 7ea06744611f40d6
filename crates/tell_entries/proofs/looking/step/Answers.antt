use Rattle.std.proofs.Common.{subst}
use Rattle.tell_entries.specs.Ways.{IsLooked}
use Rattle.tell_entries.proofs.looking.step.Goals as goal

pub returns-in-AtFault-clause-found : goal.returns-in-AtFault-clause-found
returns-in-AtFault-clause-found c = subst (IsLooked c.args.directory.now c.deref-2.result.now c.args.fault)
    c.in-AtFault.is c.in_ok-looked.ensures.looked
