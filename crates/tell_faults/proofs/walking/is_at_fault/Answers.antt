use Rattle.std.proofs.Common.{rules}
use Rattle.tell_faults.proofs.walking.is_at_fault.Goals as goal

pub returns-in-CrossLinked : goal.returns-in-CrossLinked
returns-in-CrossLinked c = search rules
