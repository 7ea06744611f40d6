use Rattle.tell_chains.proofs.Owned.{stream_is_at_fault}
use Rattle.tell_chains.proofs.law.stream_is_at_fault.Goals as goal

pub returns : goal.returns
returns c = stream_is_at_fault
