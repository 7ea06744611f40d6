use Rattle.std.proofs.Common.{rules}
use Rattle.cfb_names.proofs.name.upper.Goals as goal

pub returns : goal.returns
returns c = search rules
