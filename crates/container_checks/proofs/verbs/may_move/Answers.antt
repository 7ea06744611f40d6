use Rattle.std.proofs.Common.{rules}
use Rattle.container_checks.proofs.verbs.may_move.Goals as goal

pub returns-clause-may : goal.returns-clause-may
returns-clause-may c = search rules
