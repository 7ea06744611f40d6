use Rattle.tell_entries.proofs.Steps as steps
use Rattle.tell_entries.proofs.law.entry_is_at_fault.Goals as goal

pub returns : goal.returns
returns c = steps.entry_is_at_fault
