use Rattle.container_steady.proofs.SteadyFinds.{one_object_an_activation}
use Rattle.container_steady.proofs.record_laws.one_object_an_activation.Goals as goal

pub returns : goal.returns
returns c = one_object_an_activation
