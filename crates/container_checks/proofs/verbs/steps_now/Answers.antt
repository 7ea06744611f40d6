use Rattle.std.proofs.Common.{rules}
use Rattle.container_checks.proofs.verbs.steps_now.Goals as goal

pub returns-in_default : goal.returns-in_default
returns-in_default c = search rules
