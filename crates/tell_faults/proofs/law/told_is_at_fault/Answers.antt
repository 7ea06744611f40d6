use Rattle.tell_faults.proofs.Places as places
use Rattle.tell_faults.proofs.law.told_is_at_fault.Goals as goal

pub returns : goal.returns
returns c = places.told_is_at_fault
