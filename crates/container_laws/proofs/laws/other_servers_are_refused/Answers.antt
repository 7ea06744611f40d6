use Rattle.container_laws.proofs.MessageLaws.{other-servers_are_refused}
use Rattle.container_laws.proofs.laws.other_servers_are_refused.Goals as goal

pub returns : goal.returns
returns c = other-servers_are_refused
