use Rattle.std.proofs.Common.{rules}
use Rattle.container_checks.proofs.contents.kept.Goals as goal

pub returns-in-Some-saved : goal.returns-in-Some-saved
returns-in-Some-saved c = search rules
