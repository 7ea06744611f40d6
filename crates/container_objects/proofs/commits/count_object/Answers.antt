use Rattle.std.proofs.Common.{rules}
use Rattle.container_objects.proofs.commits.count_object.Goals as goal

pub returns-in-Some-take : goal.returns-in-Some-take
returns-in-Some-take c = search rules
