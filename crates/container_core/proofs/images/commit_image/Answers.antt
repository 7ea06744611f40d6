use Rattle.std.proofs.Common.{rules}
use Rattle.container_core.proofs.images.commit_image.Goals as goal

pub returns-in-Ok-clause-denotes : goal.returns-in-Ok-clause-denotes
returns-in-Ok-clause-denotes c = search rules
