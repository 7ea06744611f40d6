use Rattle.std.proofs.Common.{rules}
use Rattle.container_objects.proofs.reaps.reap_object.Goals as goal

pub returns : goal.returns
returns c = search rules
