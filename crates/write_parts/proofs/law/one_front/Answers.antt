use Rattle.write_parts.proofs.Outlined.{same-bytes}
use Rattle.write_parts.proofs.law.one_front.Goals as goal

pub returns : goal.returns
returns c = same-bytes
