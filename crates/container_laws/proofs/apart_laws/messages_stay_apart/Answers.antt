use Rattle.container_laws.proofs.ApartLaws.{messages-stay_apart}
use Rattle.container_laws.proofs.apart_laws.messages_stay_apart.Goals as goal

pub returns : goal.returns
returns c = messages-stay_apart
