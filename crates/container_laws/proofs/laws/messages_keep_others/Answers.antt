use Rattle.container_laws.proofs.MessagesKeep.{messages-keep_others}
use Rattle.container_laws.proofs.laws.messages_keep_others.Goals as goal

pub returns : goal.returns
returns c = messages-keep_others
