use Rattle.std.proofs.Common.{rules}
use Rattle.world_host.proofs.host.Host.resolve_kept.Goals as goal

pub returns-in-Ok-keep-clause-taken : goal.returns-in-Ok-keep-clause-taken
returns-in-Ok-keep-clause-taken c = (c.in-Ok.image, (λ parts e. search rules), search rules)
