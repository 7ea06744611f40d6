use Rattle.world_facts.proofs.Sending.{sent_next}
use Rattle.world_facts.proofs.laws.sending_next_keeps.Goals as goal

pub returns : goal.returns
returns c = λ hostile. sent_next {hostile = hostile}
