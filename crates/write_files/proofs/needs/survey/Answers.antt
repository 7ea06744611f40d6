use Rattle.std.proofs.Common.{rules}
use Rattle.write_files.proofs.needs.survey.Goals as goal

pub returns : goal.returns
returns g c = search rules
