use Rattle.std.proofs.Common.{rules}
use Rattle.world_host.proofs.host.Host.done.Goals as goal

pub returns-in-Ok-commit-clause-taken : goal.returns-in-Ok-commit-clause-taken
returns-in-Ok-commit-clause-taken c = (c.in-Ok.image, (λ parts e. search rules), search rules)
