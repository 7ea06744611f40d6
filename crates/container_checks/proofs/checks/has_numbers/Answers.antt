use Rattle.std.proofs.Common.{rules}
use Rattle.container_checks.proofs.checks.has_numbers.Goals as goal

pub returns : goal.returns
returns c = search rules
